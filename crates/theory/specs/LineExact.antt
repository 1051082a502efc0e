-- An input line is allowed, with these trees, exactly when it is the line's text of the trees and they fit the inputs' declared types.
use Rattle.std.specs.Prelude.{ℕ, suc, ◌≤◌, true, ◌↔◌, ◌≡◌, refl, length, eqb}
use mathlib.Core.List.{List, [], ◌∷◌, ◌++◌, append-nil}
use Rattle.std.proofs.Math.Option.{Option, none, some}
use Rattle.std.proofs.Common.{sym, ◌∙◌, arith, le_refl, length-append, eqb-true}
use Rattle.std.proofs.Math.Path.{ap}
use Rattle.std.proofs.lemmas.List.{length-map}
use Rattle.language.specs.Result.{when, chain}
use Rattle.language.specs.Codes.{kind_input_line}
use Rattle.language.specs.Syntax.{Ty, Input, File}
use Rattle.language.specs.Heap.{kbool, kint, Tree, vleaf, vcon, vnil, vcons}
use Rattle.language.specs.Values.{fits}
use Rattle.language.specs.Format.{spell_all, pair_of, line_text}
use Rattle.language.specs.LineFormat.{value_bytes, input_text}
use Rattle.language.specs.Within.{All, all_nil, all_cons, Within}
use Rattle.language.specs.Parser.{Read, got, many}
use Rattle.language.specs.Text.{lines_of}
use Rattle.language.specs.Line.{value_at, all_read_of, input_trees, trees_fit, one_line_of, line_trees}
use Rattle.theory.specs.Opened.{running}
use Rattle.theory.specs.Tins.{codes}
use Rattle.theory.specs.Lists.{false-is-not-true, none-is-not-some, both_left, both_right}
use Rattle.theory.specs.Tests.{Whenever, w_some, w_none, whenever-map, whenever-chain, whenever-when, whenever-is}
use Rattle.theory.specs.Outcomes.{Reads, reads_got, reads_bad}
use Rattle.theory.specs.Exact.{Starts}
use Rattle.theory.specs.ExactParts.{many-back, many-forth}
use Rattle.theory.specs.ExactText.{Filled, filled, ended, line-ended, lines-forth, line-back, line-forth}
use Rattle.theory.specs.SmallParts.{spell-small}
use Rattle.theory.specs.SmallFrames.{few-constructors}
use Rattle.theory.specs.TypedTrees.{fits-has}
use Rattle.theory.specs.ExactValues.{WithinTree, value-exact, has_within, value-small}
use Rattle.theory.specs.HeldChannels.{input_types}

-- ---- what is read
-- one line with its LF
one-line-forth : (line : List ℕ) → Whenever (λ l. line ≡ ended l) (one_line_of (lines_of line).ended (lines_of line).rest)
unfolding one_line_of spell_all
one-line-forth line = go (lines_of line).ended (lines_of line).rest (lines-forth line)
  where
    go : (ls : List (List ℕ)) (rest : List ℕ) → line ≡ spell_all ended ls ++ rest → Whenever (λ l. line ≡ ended l) (one_line_of ls rest)
    go [] rest e = w_none
    go (l ∷ []) [] e = w_some (e ∙ append-nil _ ∙ append-nil _)
    go (l ∷ []) (c ∷ rest) e = w_none
    go (l ∷ m ∷ ls) rest e = w_none

-- all its bytes are values
module _ (P : File) where
  all_read : {cs : List ℕ} {n m : ℕ} {r : Read (List Tree)} → Reads (Starts (spell_all value_bytes) (λ vs. (length vs ≡ m) × All (WithinTree P n) vs) cs) r →
      Whenever (λ vs. cs ≡ spell_all value_bytes vs) (all_read_of r)
  unfolding all_read_of
  all_read (reads_got {a = vs} {rest = []} s) = w_some (s.spelled ∙ append-nil (spell_all value_bytes vs))
  all_read (reads_got {rest = b ∷ bs} s) = w_none
  all_read reads_bad = w_none

  trees-read : (bs : List ℕ) → Filled bs → Whenever (λ vs. bs ≡ kind_input_line ∷ spell_all value_bytes vs) (input_trees P bs)
  unfolding input_trees
  trees-read (k ∷ bs) (filled w small) =
      whenever-chain {Q = λ cs. (k ≡ kind_input_line) × (bs ≡ cs)} (whenever-when (eqb k kind_input_line) bs (λ e. (eqb-true k kind_input_line e, refl))) λ cs E.
      rw (E.0, ← E.1) (whenever-map (λ vs e. ap (λ (l : List ℕ). kind_input_line ∷ l) e) (all_read ((many-forth (value-exact P _) (length P.inputs)).reads bs small)))
  trees-read [] x' = elim x' [ ]

  line_reads : (line : List ℕ) → Whenever (λ vs. (line ≡ input_text vs) × (trees_fit P vs (input_types P) ≡ true)) (line_trees P line)
  unfolding line_trees line_text
  line_reads line =
      whenever-chain (one-line-forth line) λ l L.
      whenever-chain (line-forth l) λ bs B.
      whenever-chain (trees-read bs B.1) λ vs T.
      whenever-when (trees_fit P vs (input_types P)) vs λ fit. (L ∙ ap ended (B.0 ∙ ap (spell_all pair_of) T), fit)

  pub line-forth-exact : (line : List ℕ) (vs : List Tree) → line_trees P line ≡ some vs → (line ≡ input_text vs) × (trees_fit P vs (input_types P) ≡ true)
  line-forth-exact line vs e = whenever-is (line_reads line) e

-- ---- what is written
one-line-back : (bs : List ℕ) → one_line_of (lines_of (line_text bs)).ended (lines_of (line_text bs)).rest ≡ some (spell_all pair_of bs)
unfolding one_line_of lines_of line_text
one-line-back bs = rw (line-ended bs [])

abbrev values : List Tree → List ℕ
values vs = spell_all value_bytes vs

-- trees that fit have no more levels than the line has bytes
trees-within : {P : File} (vs : List Tree) (τs : List Ty) (n : ℕ) → trees_fit P vs τs ≡ true → length (spell_all value_bytes vs) ≤ n → (length vs ≡ length τs) × All (WithinTree P n) vs
unfolding trees_fit spell_all
trees-within [] [] n e le = (refl, all_nil)
trees-within [] (τ ∷ τs) n e le = false-is-not-true e
trees-within (v ∷ vs) [] n e le = false-is-not-true e
trees-within {P} (v ∷ vs) (τ ∷ τs) n e le =
    let sum = length-append (value_bytes v) (spell_all value_bytes vs) in
    let more = trees-within vs τs n (both_right (fits P v τ) (trees_fit P vs τs) e) (omega arith) in
    (ap suc more.0, all_cons (has_within (fits-has v τ (both_left (fits P v τ) (trees_fit P vs τs) e)) n (omega arith)) more.1)

module _ (P : File) (vs : List Tree) (fit : trees_fit P vs (input_types P) ≡ true) where
  inputs-within : (n : ℕ) → length (values vs) ≤ n → (length vs ≡ length P.inputs) × All (WithinTree P n) vs
  inputs-within n enough = let w = trees-within vs (input_types P) n fit enough in (w.0 ∙ length-map P.inputs (λ (i : Input). i.declared), w.1)

  pub inputs-count : length vs ≡ length P.inputs
  inputs-count = (inputs-within _ (le_refl _)).0

  -- as many levels as bytes are enough
  inputs_read : (n : ℕ) → length (values vs) ≤ n → many (value_at n P) (length P.inputs) (values vs) ≡ got vs []
  inputs_read n enough = let w = inputs-within n enough in rw (append-nil (values vs), w.0) at (many-back (value-exact P n) vs [] w.1)

  trees-back : input_trees P (kind_input_line ∷ values vs) ≡ some vs
  unfolding input_trees chain when all_read_of
  trees-back = ap all_read_of (inputs_read _ (le_refl (length (values vs))))

  line-filled : Within P → Filled (kind_input_line ∷ values vs)
  line-filled w =
      filled {b = kind_input_line} (omega arith) (spell-small value_bytes (λ v u. value-small (omega (arith, w.few_types)) (λ t. omega (arith, few-constructors w.types t)) u) (inputs-within _ (le_refl _)).1)

  pub line-back-exact : Within P → line_trees P (input_text vs) ≡ some vs
  unfolding line_trees chain when
  line-back-exact w = rw (one-line-back (kind_input_line ∷ values vs), line-back (kind_input_line ∷ values vs) (line-filled w), trees-back, fit)

-- ---- both
pub line-exact : (P : File) → Within P → (line : List ℕ) (vs : List Tree) → (line_trees P line ≡ some vs) ↔ ((line ≡ input_text vs) × (trees_fit P vs (input_types P) ≡ true))
line-exact P w line vs = (line-forth-exact P line vs, λ x. rw x.0 (line-back-exact P vs x.1 w))

-- any other line gives nothing, and only such a line does
pub line-none : (P : File) (line : List ℕ) → ((vs : List Tree) → line ≡ input_text vs → trees_fit P vs (input_types P) ≡ true → ⊥) → line_trees P line ≡ none
line-none P line other = go (line_trees P line) (line_reads P line)
  where
    go : (o : Option (List Tree)) → Whenever (λ vs. (line ≡ input_text vs) × (trees_fit P vs (input_types P) ≡ true)) o → o ≡ none
    go none w_none = refl
    go (some vs) (w_some x) = absurd (other vs x.0 x.1)

pub line-none-exact : (P : File) → Within P → (line : List ℕ) → (line_trees P line ≡ none) ↔ ((vs : List Tree) → line ≡ input_text vs → trees_fit P vs (input_types P) ≡ true → ⊥)
line-none-exact P w line = (λ e vs is fit. none-is-not-some (sym e ∙ (line-exact P w line vs).1 (is, fit)), line-none P line)

-- no two lists of trees that fit have one line
pub input_text-injective : {P : File} → Within P → (us vs : List Tree) → trees_fit P us (input_types P) ≡ true → trees_fit P vs (input_types P) ≡ true → input_text us ≡ input_text vs → us ≡ vs
input_text-injective {P} w us vs u v e = let p = line-back-exact P us u w in let q = line-back-exact P vs v w in cc (ap (line_trees P) e)

-- a Bool, an Int and a list of one Int, spelled by hand
a_line : input_text (vleaf (kbool true) ∷ vleaf (kint 0x01020304) ∷ vcon 0 1 (vcons (vleaf (kint 5)) (vcons (vcon 0 0 vnil) vnil)) ∷ []) ≡ codes "05100111010203041900011100000005190000\n"
unfolding running codes
a_line = refl
