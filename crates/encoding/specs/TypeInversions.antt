-- Fields, types, sizes and conditions by their first byte: which form is spelled there, and where its parts are.
-- For each kind of thing: what each code says, that the byte there is the code of what is spelled, and each form by its code.
use Rattle.std.specs.Prelude.{ℕ, List, [], ◌∷◌, ◌++◌, ◌≡◌, refl, length}
use Rattle.std.proofs.Common.{sym, ap, ap₂, ◌∙◌, arith}
use Rattle.language.specs.Syntax.{Field, fbool, fint, own, other, Plain, pbool, pint, pnamed, Ty, tbool, tint, tnamed, Size, lit, svar, plus, minus, ResultType, rbool, rint, rnamed, Condition}
use Rattle.language.specs.Format.{field_bytes, plain_bytes, declared_bytes, size_bytes, result_bytes, relation_code, condition_bytes}
use Rattle.text.specs.Places.{past, byte_at, past-append}
use Rattle.encoding.specs.Spells.{Spells, spells-byte, spells-first, spells-next, SpellsTwo, ends-behind, two-behind, IsLeaf}

-- ---- fields
pub data FieldCoded (line : List ℕ) (at : ℕ) (f : Field) : ℕ → Type 0 where
  fbool_coded : IsLeaf field_bytes 1 f fbool → FieldCoded line at f 0x00
  fint_coded : IsLeaf field_bytes 1 f fint → FieldCoded line at f 0x01
  own_coded : IsLeaf field_bytes 1 f own → FieldCoded line at f 0x02
  other_coded : IsLeaf field_bytes 3 f (other (byte_at line (past line at 1)) (byte_at line (past line at 2))) → FieldCoded line at f 0x03

pub field-of-byte : {line : List ℕ} {at : ℕ} {f : Field} → Spells field_bytes line at f → FieldCoded line at f (byte_at line at)
unfolding field_bytes
field-of-byte {f = fbool} s = rw (spells-first s (omega arith)) (fbool_coded (record { is = refl; long = refl }))
field-of-byte {f = fint} s = rw (spells-first s (omega arith)) (fint_coded (record { is = refl; long = refl }))
field-of-byte {f = own} s = rw (spells-first s (omega arith)) (own_coded (record { is = refl; long = refl }))
field-of-byte {f = other t k} s = rw (spells-first s (omega arith)) (other_coded (record { is = sym (ap₂ other (spells-byte s 1 (omega arith)) (spells-byte s 2 (omega arith))); long = refl }))

module _ {line : List ℕ} {at : ℕ} {f : Field} (s : Spells field_bytes line at f) where
  pub fbool-spelled : byte_at line at ≡ 0x00 → IsLeaf field_bytes 1 f fbool
  fbool-spelled q = elim (rw q at (field-of-byte s)) [ fbool_coded w ↦ w ]

  pub fint-spelled : byte_at line at ≡ 0x01 → IsLeaf field_bytes 1 f fint
  fint-spelled q = elim (rw q at (field-of-byte s)) [ fint_coded w ↦ w ]

  pub own-spelled : byte_at line at ≡ 0x02 → IsLeaf field_bytes 1 f own
  own-spelled q = elim (rw q at (field-of-byte s)) [ own_coded w ↦ w ]

  pub other-spelled : byte_at line at ≡ 0x03 → IsLeaf field_bytes 3 f (other (byte_at line (past line at 1)) (byte_at line (past line at 2)))
  other-spelled q = elim (rw q at (field-of-byte s)) [ other_coded w ↦ w ]

-- ---- plain types, those of parameters
pub data PlainCoded (line : List ℕ) (at : ℕ) (p : Plain) : ℕ → Type 0 where
  pbool_coded : IsLeaf plain_bytes 1 p pbool → PlainCoded line at p 0x00
  pint_coded : IsLeaf plain_bytes 1 p pint → PlainCoded line at p 0x01
  pnamed_coded : IsLeaf plain_bytes 2 p (pnamed (byte_at line (past line at 1))) → PlainCoded line at p 0x02

pub plain-of-byte : {line : List ℕ} {at : ℕ} {p : Plain} → Spells plain_bytes line at p → PlainCoded line at p (byte_at line at)
unfolding plain_bytes
plain-of-byte {p = pbool} s = rw (spells-first s (omega arith)) (pbool_coded (record { is = refl; long = refl }))
plain-of-byte {p = pint} s = rw (spells-first s (omega arith)) (pint_coded (record { is = refl; long = refl }))
plain-of-byte {p = pnamed t} s = rw (spells-first s (omega arith)) (pnamed_coded (record { is = sym (ap pnamed (spells-byte s 1 (omega arith))); long = refl }))

module _ {line : List ℕ} {at : ℕ} {p : Plain} (s : Spells plain_bytes line at p) where
  pub pbool-spelled : byte_at line at ≡ 0x00 → IsLeaf plain_bytes 1 p pbool
  pbool-spelled q = elim (rw q at (plain-of-byte s)) [ pbool_coded w ↦ w ]

  pub pint-spelled : byte_at line at ≡ 0x01 → IsLeaf plain_bytes 1 p pint
  pint-spelled q = elim (rw q at (plain-of-byte s)) [ pint_coded w ↦ w ]

  pub pnamed-spelled : byte_at line at ≡ 0x02 → IsLeaf plain_bytes 2 p (pnamed (byte_at line (past line at 1)))
  pnamed-spelled q = elim (rw q at (plain-of-byte s)) [ pnamed_coded w ↦ w ]

-- ---- declared types
pub data DeclaredCoded (line : List ℕ) (at : ℕ) (τ : Ty) : ℕ → Type 0 where
  tbool_coded : IsLeaf declared_bytes 1 τ tbool → DeclaredCoded line at τ 0x00
  tint_coded : IsLeaf declared_bytes 1 τ tint → DeclaredCoded line at τ 0x01
  tnamed_coded : IsLeaf declared_bytes 3 τ (tnamed (byte_at line (past line at 1)) (byte_at line (past line at 2))) → DeclaredCoded line at τ 0x02

pub declared-of-byte : {line : List ℕ} {at : ℕ} {τ : Ty} → Spells declared_bytes line at τ → DeclaredCoded line at τ (byte_at line at)
unfolding declared_bytes
declared-of-byte {τ = tbool} s = rw (spells-first s (omega arith)) (tbool_coded (record { is = refl; long = refl }))
declared-of-byte {τ = tint} s = rw (spells-first s (omega arith)) (tint_coded (record { is = refl; long = refl }))
declared-of-byte {τ = tnamed t k} s = rw (spells-first s (omega arith)) (tnamed_coded (record { is = sym (ap₂ tnamed (spells-byte s 1 (omega arith)) (spells-byte s 2 (omega arith))); long = refl }))

module _ {line : List ℕ} {at : ℕ} {τ : Ty} (s : Spells declared_bytes line at τ) where
  pub tbool-spelled : byte_at line at ≡ 0x00 → IsLeaf declared_bytes 1 τ tbool
  tbool-spelled q = elim (rw q at (declared-of-byte s)) [ tbool_coded w ↦ w ]

  pub tint-spelled : byte_at line at ≡ 0x01 → IsLeaf declared_bytes 1 τ tint
  tint-spelled q = elim (rw q at (declared-of-byte s)) [ tint_coded w ↦ w ]

  pub tnamed-spelled : byte_at line at ≡ 0x02 → IsLeaf declared_bytes 3 τ (tnamed (byte_at line (past line at 1)) (byte_at line (past line at 2)))
  tnamed-spelled q = elim (rw q at (declared-of-byte s)) [ tnamed_coded w ↦ w ]

-- ---- sizes
-- a sum or a difference: join of two sizes
pub record OfTwoSizes (join : Size → Size → Size) (line : List ℕ) (at : ℕ) (s : Size) : Type 0 where
  pub first : Size
  pub second : Size
  pub is : s ≡ join first second
  pub spelled : Spells size_bytes line (past line at 1) first
  pub next : Spells size_bytes line (past line (past line at 1) (length (size_bytes first))) second
  pub ends : past line at (length (size_bytes (join first second))) ≡ past line (past line (past line at 1) (length (size_bytes first))) (length (size_bytes second))

of-two-sizes : {line : List ℕ} {at code : ℕ} {a b : Size} (join : Size → Size → Size) → size_bytes (join a b) ≡ code ∷ size_bytes a ++ size_bytes b →
    Spells size_bytes line at (join a b) → OfTwoSizes join line at (join a b)
of-two-sizes {line} {at} {code} {a} {b} join e s =
    let both : SpellsTwo size_bytes size_bytes line (past line at 1) a b = two-behind (code ∷ []) e s in
    record { first = a; second = b; is = refl; spelled = both.spelled; next = both.next; ends = ends-behind line at (code ∷ []) (size_bytes a ++ size_bytes b) e ∙ both.ends }

pub data SizeCoded (line : List ℕ) (at : ℕ) (s : Size) : ℕ → Type 0 where
  lit_coded : IsLeaf size_bytes 2 s (lit (byte_at line (past line at 1))) → SizeCoded line at s 0x01
  svar_coded : IsLeaf size_bytes 2 s (svar (byte_at line (past line at 1))) → SizeCoded line at s 0x02
  plus_coded : OfTwoSizes plus line at s → SizeCoded line at s 0x03
  minus_coded : OfTwoSizes minus line at s → SizeCoded line at s 0x04

pub size-of-byte : {line : List ℕ} {at : ℕ} {s : Size} → Spells size_bytes line at s → SizeCoded line at s (byte_at line at)
unfolding size_bytes
size-of-byte {s = lit k} s = rw (spells-first s (omega arith)) (lit_coded (record { is = sym (ap lit (spells-byte s 1 (omega arith))); long = refl }))
size-of-byte {s = svar i} s = rw (spells-first s (omega arith)) (svar_coded (record { is = sym (ap svar (spells-byte s 1 (omega arith))); long = refl }))
size-of-byte {s = plus a b} s = rw (spells-first s (omega arith)) (plus_coded (of-two-sizes plus refl s))
size-of-byte {s = minus a b} s = rw (spells-first s (omega arith)) (minus_coded (of-two-sizes minus refl s))

module _ {line : List ℕ} {at : ℕ} {s : Size} (w : Spells size_bytes line at s) where
  pub lit-spelled : byte_at line at ≡ 0x01 → IsLeaf size_bytes 2 s (lit (byte_at line (past line at 1)))
  lit-spelled q = elim (rw q at (size-of-byte w)) [ lit_coded i ↦ i ]

  pub svar-spelled : byte_at line at ≡ 0x02 → IsLeaf size_bytes 2 s (svar (byte_at line (past line at 1)))
  svar-spelled q = elim (rw q at (size-of-byte w)) [ svar_coded i ↦ i ]

  pub plus-spelled : byte_at line at ≡ 0x03 → OfTwoSizes plus line at s
  plus-spelled q = elim (rw q at (size-of-byte w)) [ plus_coded i ↦ i ]

  pub minus-spelled : byte_at line at ≡ 0x04 → OfTwoSizes minus line at s
  minus-spelled q = elim (rw q at (size-of-byte w)) [ minus_coded i ↦ i ]

-- ---- result types
pub record IsNamedResult (line : List ℕ) (at : ℕ) (r : ResultType) : Type 0 where
  pub size : Size
  pub is : r ≡ rnamed (byte_at line (past line at 1)) size
  pub spelled : Spells size_bytes line (past line at 2) size
  pub ends : past line at (length (result_bytes (rnamed (byte_at line (past line at 1)) size))) ≡ past line (past line at 2) (length (size_bytes size))

pub data ResultCoded (line : List ℕ) (at : ℕ) (r : ResultType) : ℕ → Type 0 where
  rbool_coded : IsLeaf result_bytes 1 r rbool → ResultCoded line at r 0x00
  rint_coded : IsLeaf result_bytes 1 r rint → ResultCoded line at r 0x01
  rnamed_coded : IsNamedResult line at r → ResultCoded line at r 0x02

pub result-of-byte : {line : List ℕ} {at : ℕ} {r : ResultType} → Spells result_bytes line at r → ResultCoded line at r (byte_at line at)
unfolding result_bytes
result-of-byte {r = rbool} s = rw (spells-first s (omega arith)) (rbool_coded (record { is = refl; long = refl }))
result-of-byte {r = rint} s = rw (spells-first s (omega arith)) (rint_coded (record { is = refl; long = refl }))
result-of-byte {line} {at} {r = rnamed t k} s =
    rw (spells-first s (omega arith)) (rnamed_coded (record {
      size = k;
      is = sym (ap (λ n. rnamed n k) (spells-byte s 1 (omega arith)));
      spelled = spells-next s (0x02 ∷ t ∷ []) refl;
      ends = past-append line at (0x02 ∷ t ∷ []) (size_bytes k);
    }))

module _ {line : List ℕ} {at : ℕ} {r : ResultType} (s : Spells result_bytes line at r) where
  pub rbool-spelled : byte_at line at ≡ 0x00 → IsLeaf result_bytes 1 r rbool
  rbool-spelled q = elim (rw q at (result-of-byte s)) [ rbool_coded i ↦ i ]

  pub rint-spelled : byte_at line at ≡ 0x01 → IsLeaf result_bytes 1 r rint
  rint-spelled q = elim (rw q at (result-of-byte s)) [ rint_coded i ↦ i ]

  pub rnamed-spelled : byte_at line at ≡ 0x02 → IsNamedResult line at r
  rnamed-spelled q = elim (rw q at (result-of-byte s)) [ rnamed_coded i ↦ i ]

-- ---- conditions, which have one form
pub record ConditionParts (line : List ℕ) (at : ℕ) (c : Condition) : Type 0 where
  pub relation : byte_at line at ≡ relation_code c.rel
  pub spelled : Spells size_bytes line (past line at 1) c.left
  pub next : Spells size_bytes line (past line (past line at 1) (length (size_bytes c.left))) c.right
  pub ends : past line at (length (condition_bytes c)) ≡ past line (past line (past line at 1) (length (size_bytes c.left))) (length (size_bytes c.right))

pub condition-parts : {line : List ℕ} {at : ℕ} {c : Condition} → Spells condition_bytes line at c → ConditionParts line at c
unfolding condition_bytes
condition-parts {line} {at} {c} s =
    let both : SpellsTwo size_bytes size_bytes line (past line at 1) c.left c.right = two-behind (relation_code c.rel ∷ []) refl s in
    record { relation = spells-first s (omega arith); spelled = both.spelled; next = both.next; ends = past-append line at (relation_code c.rel ∷ []) (size_bytes c.left ++ size_bytes c.right) ∙ both.ends }
