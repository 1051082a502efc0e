-- Where an expression stands, as the code holds it: a Site for the definition's place, and the words of a scope for its types.
-- Site is a notion of the code; document 01 has no word for it.
use Rattle.std.specs.Prelude.{ℕ, suc, ◌+◌, ◌*◌, ◌≤◌, ◌<◌, ◌^◌, List, map, ◌≡◌, refl, length, take, set}
use Rattle.std.proofs.Math.Option.{some}
use Rattle.std.proofs.Common.{◌∙◌, arith}
use Rattle.std.proofs.Math.ListN.{get_elem? as look}
use Rattle.std.proofs.lemmas.List.{take-set-le}
use Rattle.language.specs.Limits.{byte_range, size_most, nesting_most}
use Rattle.language.specs.Syntax.{Ty, tbool, tint, tnamed, File, declared_types}
use Rattle.language.specs.Scope.{Scope}
use Rattle.language.specs.Within.{All}
use Rattle.language.specs.Typing.{Place as Stand, outside, inside, channels_at, frame_at}
use Rattle.theory.specs.Lists.{take-fewer}
use Rattle.text.specs.declared.Cursor.{Cursor}
use Rattle.text.specs.Bytes.{declared_word}
use Rattle.index.specs.Indexed.{function_line, line_count}
use Rattle.encoding.specs.Known.{Known}
use Rattle.sizes.specs.declared.SizedType.{SizedType}
use Rattle.sizes.specs.Promises.{meaning, OneByteEach, bool_small, int_small, named_small, Small, small_bool, small_int, small_named}
use Rattle.heads.specs.Places.{moved_to, inside_of, wider_by}
use Rattle.size_steps.specs.declared.Site.{Site}

-- ---- the types of a scope: a number of one byte, a size up to the largest one
pub data Bounded : Ty → Type 0 where
  bounded_bool : Bounded tbool
  bounded_int : Bounded tint
  bounded_named : {t k : ℕ} → t < byte_range → k ≤ size_most → Bounded (tnamed t k)

pub bounded-small : {τ : Ty} → Bounded τ → Small τ
bounded-small bounded_bool = small_bool
bounded-small bounded_int = small_int
bounded-small (bounded_named {k} p q) = small_named {k = k} p (omega (arith, q))

-- the types that type_at gives
pub one-byte-bounded : {x : SizedType} → OneByteEach x → Bounded (meaning x)
one-byte-bounded bool_small = bounded_bool
one-byte-bounded int_small = bounded_int
one-byte-bounded (named_small p q) = bounded_named p q.1

-- ---- the same site elsewhere in the line, one level down, with more in scope
abbrev pub moved_on_of : Site → Cursor → ℕ → Site
moved_on_of p at used = record { place = moved_to p.place at; sizes = p.sizes; measure = p.measure; used = used }

abbrev pub down_to : Site → Cursor → Site
down_to p at = record { place = inside_of p.place at; sizes = p.sizes; measure = p.measure; used = p.used }

abbrev pub widened_by : Site → ℕ → ℕ → Site
widened_by p v s = record { place = wider_by v p.place p.place.at; sizes = p.sizes + s; measure = p.measure; used = p.used }

-- ---- what keeps the numbers of a site small on any bytes: each level adds fewer variables than a byte counts. deep: the levels
-- that are still to be counted, one more inside a form whose head was read
pub record Room (deep : ℕ) (p : Site) : Type 0 where
  pub levels : deep ≤ nesting_most
  pub under : p.place.levels ≤ deep
  pub line : p.place.line < 2 ^ 16
  pub variables : p.place.variables + byte_range * deep < 2 ^ 16
  pub sizes : p.sizes + byte_range * deep < 2 ^ 16

-- ---- the function around it, whose line it is, and its summed measure; the lines of channels are behind those of functions
pub data Around (P : File) (line summed_measure : ℕ) : Stand → Type 0 where
  around_none : {frame : ℕ} {C : List Ty} → length P.types + length P.functions ≤ line → Around P line summed_measure (outside frame C)
  around_one : {f w : ℕ} → line ≡ function_line P f → summed_measure ≡ w → Around P line summed_measure (inside f w)

-- the channels that may be named there are the file's
abbrev pub ChannelsOf : File → Stand → Type 0
ChannelsOf P q = (c : ℕ) (τ : Ty) → look (channels_at q) c ≡ some τ → look (declared_types P) c ≡ some τ

-- q: where it stands for the definition; Γ, Δ: the types and sizes in scope; p, scope, sizes: what the code holds
pub record Sited (P : File) (S : Scope) (q : Stand) (Γ : List Ty) (Δ : List ℕ) (scope sizes : List ℕ) (p : Site) : Type 0 where
  pub known : Known P S
  pub channels : ChannelsOf P q
  pub frame : frame_at P q ≡ suc p.place.line
  pub line : p.place.line < line_count P
  pub around : Around P p.place.line p.measure q
  pub variables : p.place.variables ≡ length Γ
  pub variables_in : S.variables ≡ length Γ
  pub types : take p.place.variables scope ≡ map declared_word Γ
  pub small : All Bounded Γ
  pub size_count : p.sizes ≡ length Δ
  pub sizes_in : S.sizes ≡ length Δ
  pub sizes_are : take p.sizes sizes ≡ Δ

-- ---- what a part keeps of the scope, on any bytes
pub record Kept (p : Site) (scope sizes scope' sizes' : List ℕ) : Type 0 where
  pub variables : take p.place.variables scope' ≡ take p.place.variables scope
  pub sizes_too : take p.sizes sizes' ≡ take p.sizes sizes

pub kept-all : {p : Site} {scope sizes : List ℕ} → Kept p scope sizes scope sizes
kept-all = record { variables = refl; sizes_too = refl }

pub kept_then : {p : Site} {scope sizes scope₁ sizes₁ scope₂ sizes₂ : List ℕ} → Kept p scope sizes scope₁ sizes₁ → Kept p scope₁ sizes₁ scope₂ sizes₂ → Kept p scope sizes scope₂ sizes₂
kept_then k l = record { variables = l.variables ∙ k.variables; sizes_too = l.sizes_too ∙ k.sizes_too }

-- what a part keeps under more variables, of which the first was written over
pub kept_under : {p : Site} {scope sizes scope' sizes' : List ℕ} (v s : ℕ) → Kept (widened_by p v s) scope sizes scope' sizes' → Kept p scope sizes scope' sizes'
kept_under {p} {scope} {sizes} {scope'} {sizes'} v s k = record {
  variables = take-fewer p.place.variables (p.place.variables + v) scope' scope (omega arith) k.variables;
  sizes_too = take-fewer p.sizes (p.sizes + s) sizes' sizes (omega arith) k.sizes_too;
}

pub kept-moved : {p : Site} {at : Cursor} {used : ℕ} {scope sizes scope' sizes' : List ℕ} → Kept (moved_on_of p at used) scope sizes scope' sizes' → Kept p scope sizes scope' sizes'
kept-moved k = record { variables = k.variables; sizes_too = k.sizes_too }

pub kept_set : {p : Site} {scope sizes : List ℕ} (word : ℕ) → Kept p scope sizes (set scope p.place.variables word) sizes
kept_set {p} {scope} word = record { variables = take-set-le p.place.variables scope p.place.variables word (omega arith); sizes_too = refl }

module _ {P : File} {S : Scope} {q : Stand} {Γ : List Ty} {Δ : List ℕ} {p : Site} where
  pub site-kept : {scope sizes scope' sizes' : List ℕ} → Sited P S q Γ Δ scope sizes p → Kept p scope sizes scope' sizes' → Sited P S q Γ Δ scope' sizes' p
  site-kept s k = record {
    known = s.known;
    channels = s.channels;
    frame = s.frame;
    line = s.line;
    around = s.around;
    variables = s.variables;
    variables_in = s.variables_in;
    types = k.variables ∙ s.types;
    small = s.small;
    size_count = s.size_count;
    sizes_in = s.sizes_in;
    sizes_are = k.sizes_too ∙ s.sizes_are;
  }

  module _ {scope sizes : List ℕ} (s : Sited P S q Γ Δ scope sizes p) where
    pub site-moved : (at : Cursor) (used : ℕ) → Sited P S q Γ Δ scope sizes (moved_on_of p at used)
    site-moved at used = record {
      known = s.known;
      channels = s.channels;
      frame = s.frame;
      line = s.line;
      around = s.around;
      variables = s.variables;
      variables_in = s.variables_in;
      types = s.types;
      small = s.small;
      size_count = s.size_count;
      sizes_in = s.sizes_in;
      sizes_are = s.sizes_are;
    }

    pub site-down : (at : Cursor) → Sited P S q Γ Δ scope sizes (down_to p at)
    site-down at = record {
      known = s.known;
      channels = s.channels;
      frame = s.frame;
      line = s.line;
      around = s.around;
      variables = s.variables;
      variables_in = s.variables_in;
      types = s.types;
      small = s.small;
      size_count = s.size_count;
      sizes_in = s.sizes_in;
      sizes_are = s.sizes_are;
    }
