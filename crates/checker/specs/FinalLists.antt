-- The list that the words fill at the end: empty records after a refusal; the instances' records and empty ones behind them on acceptance.
use Rattle.std.specs.Prelude.{ℕ, ◌-◌, ◌*◌, ◌≤◌, List, [], ◌++◌, map, ◌≡◌, refl, length, get_or, take, set, replicate}
use Rattle.std.proofs.Common.{ap, ◌∙◌, arith, length-set, get_or-set_same}
use Rattle.std.proofs.Math.Nat.{sub-zero}
use Rattle.std.proofs.lemmas.List.{take-set-le}
use Rattle.language.specs.Limits.{instances_most}
use Rattle.language.specs.Syntax.{File}
use Rattle.language.specs.Checker.{Instance as Entered}
use Rattle.language.specs.Machine.{empty_record, record_of}
use Rattle.instances.specs.Listed.{instance_words_count, Listed}
use Rattle.instances.specs.ListLaws.{listed-none}
use Rattle.instance_list.specs.Records.{records_of, records_words, list_words, filled}
use Rattle.instance_list.specs.FillLaws.{filled-shown}
use Rattle.cells.specs.TableLaws.{same_at}
use Rattle.size_steps.specs.Agreement.{table, Holds}

-- cleared words keep no record
pub none_kept : {words : List ℕ} (k n : ℕ) → words ≡ replicate k 0 → records_of (filled words n) ≡ replicate n empty_record
none_kept {words} k n e =
    let none : get_or words records_words 0 ≡ 0 = ap (λ (l : List ℕ). get_or l records_words 0) e ∙ same_at 0 k records_words in
    filled-shown [] (listed-none words) (omega arith) n (omega arith) none ∙ rw sub-zero refl

-- the instances' records, their number behind all of them
module _ {P : File} {words memo words' : List ℕ} {used : ℕ} (L : List Entered) (h : Holds P (table words memo) used L) (long : length words ≡ list_words) (put : words' ≡ set words records_words used) where
  few : length L ≤ instances_most
  few = omega (arith, h.listed.room, long)

  still-listed : Listed words' L
  still-listed = record {
    room = omega (arith, h.listed.room, ap length put, length-set words records_words used);
    is = ap (take (instance_words_count * length L)) put ∙ take-set-le (instance_words_count * length L) words records_words used (omega (arith, few)) ∙ h.listed.is;
  }

  pub all-kept : (n : ℕ) → instances_most ≤ n → records_of (filled words' n) ≡ map record_of L ++ replicate (n - length L) empty_record
  all-kept n room =
      filled-shown L still-listed few n (omega (arith, few))
      (ap (λ (l : List ℕ). get_or l records_words 0) put ∙ get_or-set_same words records_words used 0 (omega (arith, long)) ∙ h.count)
