-- A text judged and read: into an index of zeros, and the index cleared again where a line is refused.
use Rattle.std.specs.Prelude.{Ok, Err, true, false}
use Rattle.std.specs.Result.{is_err}
use Rattle.std.proofs.lemmas.Bool.{false≢true}
use Rattle.language.specs.declared.refusals.RefusalAt.{RefusalAt}
use Rattle.language.specs.RefusalNumbers.{number_of}
use Rattle.language.specs.Told.{told}
use Rattle.std.specs.Prelude.{ℕ, List, ◌≡◌, replicate}
use Rattle.std.proofs.Common.{sym, ap, ◌∙◌, arith}
use Rattle.language.specs.Result.{Result}
use Rattle.language.specs.Syntax.{File}
use Rattle.language.specs.Reader.{read_file}
use Rattle.text_lines.specs.declared.FrameCounts.{FrameCounts}
use Rattle.text_lines.specs.Lines.{Judged}
use Rattle.text_lines.specs.TextJudge.{judged-accepted, judged-refused}
use Rattle.index.specs.Sections.{types_from, functions_from, channels_from, type_table_words, function_table_words, channel_table_words, index_words, section}
use Rattle.index.specs.SectionLaws.{kept-behind, section-zero}
use Rattle.reader.specs.Texts.{Reading, Judges, Ready, FramesRead, all_frames, bad-frame, TextRead, done, fault}

-- a row of the index's length, cleared
pub cleared : {n : ℕ} {index : List ℕ} → index ≡ replicate n 0 → n ≡ index_words → index ≡ replicate index_words 0
cleared e long = e ∙ ap (λ m. replicate m 0) long

-- ---- all lines are read, or one is refused
module _ {text : List ℕ} {r : Reading} {index : List ℕ} where
  pub done_read : {x : Result File} → is_err r ≡ false → FramesRead text r index x → TextRead text r index x
  done_read q (all_frames e h) = done e h
  done_read q (bad-frame e) = absurd (false≢true (sym q ∙ ap is_err e))

  pub fault_read : {index' : List ℕ} {x : Result File} → is_err r ≡ true → index' ≡ replicate index_words 0 → FramesRead text r index x → TextRead text r index' x
  fault_read q z (all_frames e h) = absurd (false≢true (sym (ap is_err e) ∙ q))
  fault_read q z (bad-frame e) = fault e z

-- ---- the text as a whole, judged over an index of zeros
module _ {text index index' : List ℕ} {j : Judged} (zeros : index ≡ replicate index_words 0) (v : Judges text index j index') where
  pub text-ready : {n : FrameCounts} → j ≡ Ok n → Ready text index' n.frames n.channels
  unfolding told
  text-ready {n} q =
      record {
        accepted = judged-accepted text n.frames n.channels (sym v.is ∙ ap told q);
        places = v.places n q;
        types_zero = kept-behind v.outside types_from type_table_words (omega arith) ∙ ap (section types_from type_table_words) zeros ∙ section-zero types_from type_table_words index_words (omega arith);
        functions_zero = kept-behind v.outside functions_from function_table_words (omega arith) ∙ ap (section functions_from function_table_words) zeros ∙ section-zero functions_from function_table_words index_words (omega arith);
        channels_zero = kept-behind v.outside channels_from channel_table_words (omega arith) ∙ ap (section channels_from channel_table_words) zeros ∙ section-zero channels_from channel_table_words index_words (omega arith);
      }

  pub text-refused : {r : Reading} {e : RefusalAt} → j ≡ Err e → r ≡ Err e → FramesRead text r index' (read_file text)
  unfolding told
  text-refused {e = e} q a = rw (judged-refused text (number_of e.refusal) e.frame (sym v.is ∙ ap told q)) (bad-frame a)
