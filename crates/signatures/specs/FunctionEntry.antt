-- The parameters of a function read into its entry.
use Rattle.std.specs.Prelude.{Ok}
use Rattle.std.specs.Prelude.{ℕ, ◌+◌, List, ◌∷◌, ◌≡◌, refl, length, set}
use Rattle.std.proofs.Common.{ap, arith}
use Rattle.language.specs.Limits.{byte_range, parameters_most}
use Rattle.language.specs.Syntax.{Plain}
use Rattle.language.specs.Format.{spell_all}
use Rattle.language.specs.Layout.{padded}
use Rattle.language.specs.Parser.{many, count, counted}
use Rattle.language.specs.ReadExpr.{plain}
use Rattle.text.specs.declared.Found.{Found}
use Rattle.text.specs.Bytes.{Number, Step, bytes_from, plain_word, ReadsNumber, Below}
use Rattle.index.specs.Entries.{spell-words}
use Rattle.index.specs.Enters.{Enters, plain_words, parameters_entry}
use Rattle.index.specs.EnterLaws.{enters-as, counted_entry, counted-entered}

parameters-as : (ps : List Plain) → counted_entry parameters_most plain_words ps ≡ parameters_entry ps
unfolding parameters_entry
parameters-as ps = ap (λ l. length ps ∷ padded parameters_most l) (spell-words plain_word ps)

pub parameters-entered : {line table table₁ table₂ : List ℕ} {at to : ℕ} (types : ℕ) {x : Number} {f : Found} {r : Step} → ReadsNumber line at x (count 0 parameters_most (bytes_from line at)) × Below byte_range x → x ≡ Ok f → table₁ ≡ set table to f.value →
    Enters (spell_all plain_words) line f.next.at (to + 1) table₁ r table₂ (many (plain types) f.value (bytes_from line f.next.at)) → Enters parameters_entry line at to table r table₂ (counted 0 parameters_most (plain types) (bytes_from line at))
parameters-entered types v e wrote u = enters-as (counted_entry parameters_most plain_words) parameters-as (counted-entered 0 parameters_most (plain types) plain_words 1 parameters_most (λ p. refl) (omega arith) v e wrote u)
