-- The pass over a whole text: at each turn the lines so far are in the section of frames.
use Rattle.std.specs.Prelude.{Ok, Err, Some, None}
use Rattle.language.specs.declared.refusals.RefusalAt.{RefusalAt}
use Rattle.language.specs.declared.refusals.Refusal.TheVariants.{TextTooLong, BadLine}
use Rattle.language.specs.RefusalNumbers.{number_of}
use Rattle.language.specs.Told.{told}
use Rattle.language.specs.Result.{no}
use Rattle.std.specs.Prelude.{ℕ, ◌+◌, ◌-◌, ◌*◌, ◌≤◌, ◌<◌, true, false, ◌≡◌, refl, length, set, take, replicate}
use mathlib.Core.List.{List, [], ◌∷◌, ◌++◌, append-nil}
use Rattle.std.proofs.Math.Path.{sym, ap}
use Rattle.std.proofs.Common.{ap₂, ◌∙◌, arith, length-append, length-take, length-drop}
use Rattle.std.proofs.Math.ListN.{drop, drop_of_length-le}
use Rattle.std.proofs.Math.Seq.{append_snoc}
use Rattle.language.specs.Limits.{text_most}
use Rattle.language.specs.Refusals.{no_frame}
use Rattle.language.specs.Layout.{padded}
use Rattle.text_lines.specs.declared.rule_lines.FrameEnd.{FrameEnd}
use Rattle.text_lines.specs.declared.rule_lines.RuleLine.TheVariants.{Extra, Frame}
use Rattle.text.specs.Bytes.{bytes_of}
use Rattle.language.specs.Result.{choose}
use Rattle.language.specs.Format.{spell_all}
use Rattle.language.specs.Text.{Lines, lines_of, is_extra}
use Rattle.text_lines.specs.Lines.{LineRead, first_line, next_line, channels_of, judgement}
use Rattle.text_lines.specs.LinesEnd.{behind, first-line-ended, behind-next}
use Rattle.text_lines.specs.RuleLines.{line_chars, rule_line}
use Rattle.text_lines.specs.RuleAnswers.{rule-extra, rule-frame, rule-bad}
use Rattle.encoding.specs.FrameLines.{FrameLine, frame_lines_from, frame_lines_of}
use Rattle.text_lines.specs.TextJudge.{Counted, counted_start, counted-extra, counted-frame, judged-bad, judged-end, judged-too-long}
use Rattle.index.specs.Tables.{frame_words, frame_entry, frame_table}
use Rattle.index.specs.Sections.{frames_from as frames_start, frame_table_words, index_words, frames_of}
use Rattle.index.specs.SectionLaws.{Outside, outside-then, section-zero}
use Rattle.index.specs.FrameTable.{no_frames}
use Rattle.reader.specs.Texts.{Judges}
use Rattle.reader.specs.TableLaws.{place-entered}

pub record JudgedTo (t index₀ : List ℕ) (at frames channels : ℕ) (index : List ℕ) : Type 0 where
  pub fits : length t ≤ text_most
  pub earlier : List (List ℕ)
  pub counted : Counted t at frames channels earlier
  pub before : List FrameLine
  pub count : length before ≡ frames
  pub lines : frame_lines_of t ≡ before ++ frame_lines_from at (lines_of (drop at t)).ended
  pub places : frames_of index ≡ padded frame_table_words (spell_all frame_entry before)
  pub outside : Outside frames_start frame_table_words index₀ index

pub judged-start : (t index : List ℕ) → length t ≤ text_most → index ≡ replicate index_words 0 → JudgedTo t index 0 0 0 index
unfolding frame_lines_of
judged-start t index fits zeros = record {
  fits = fits;
  earlier = [];
  counted = counted_start t;
  before = [];
  count = refl;
  lines = refl;
  places = ap frames_of zeros ∙ section-zero frames_start frame_table_words index_words (omega arith) ∙ sym no_frames;
  outside = record { before = refl; behind = refl };
}

-- ---- the lines from a place on, by the first of them
module _ (t : List ℕ) (at : ℕ) {next : ℕ} (ended : length (first_line (drop at t)) < length (drop at t)) (place : next ≡ next_line t at) where
  lines-behind : frame_lines_from (next_line t at) (lines_of (behind (drop at t))).ended ≡ frame_lines_from next (lines_of (drop next t)).ended
  lines-behind = ap₂ (λ (n : ℕ) (l : List ℕ). frame_lines_from n (lines_of l).ended) (sym place) (behind-next t at ∙ ap (λ n. drop n t) (sym place))

  lines-first : frame_lines_from at (lines_of (drop at t)).ended ≡ frame_lines_from at (first_line (drop at t) ∷ (lines_of (behind (drop at t))).ended)
  lines-first = ap (λ (ls : Lines). frame_lines_from at ls.ended) (first-line-ended (drop at t) ended)

  extra-first : is_extra (line_chars (drop at t)) ≡ true → frame_lines_from at (lines_of (drop at t)).ended ≡ frame_lines_from next (lines_of (drop next t)).ended
  unfolding frame_lines_from choose
  extra-first e = lines-first ∙ rw e lines-behind

  frame-first : is_extra (line_chars (drop at t)) ≡ false → frame_lines_from at (lines_of (drop at t)).ended ≡ record { start = at; line = line_chars (drop at t) } ∷ frame_lines_from next (lines_of (drop next t)).ended
  unfolding frame_lines_from choose
  frame-first e = lines-first ∙ rw e (ap (λ fs. record { start = at; line = line_chars (drop at t) } ∷ fs) lines-behind)

-- a refusal says nothing of the frames
refused-judges : {t index index' : List ℕ} {e : RefusalAt} → no (number_of e.refusal) e.frame ≡ judgement t → Outside frames_start frame_table_words index index' → Judges t index (Err e) index'
unfolding told
refused-judges e o = record { is = e; places = λ n q. absurd (let z : ◌≡◌ {A = ℕ} 0 1 = cc in omega arith); outside = o }

pub too-long-judges : (t index : List ℕ) → text_most < length t → Judges t index (Err (record { refusal = TextTooLong; frame = no_frame })) index
too-long-judges t index h = refused-judges (judged-too-long t h) (record { before = refl; behind = refl })

module _ {t index₀ index : List ℕ} {at frames channels : ℕ} (p : JudgedTo t index₀ at frames channels index) where
  module _ {x : LineRead} (v : x ≡ rule_line t at) where
    -- where a frame's line ends, and where the next line starts
    pub frame-behind : {f : FrameEnd} → x ≡ Some (Frame f) → at < f.end
    frame-behind q = (rule-frame t at v q).from

    pub frame-before : {f : FrameEnd} → x ≡ Some (Frame f) → f.end < f.next
    frame-before q = (rule-frame t at v q).less

    pub frame-within : {f : FrameEnd} → x ≡ Some (Frame f) → f.next ≤ length t
    frame-within q = (rule-frame t at v q).within

    pub extra-behind : {next : ℕ} → x ≡ Some (Extra next) → at < next
    extra-behind q = (rule-extra t at v q).from

    pub bad-judges : at < length t → x ≡ None → Judges t index₀ (Err (record { refusal = BadLine; frame = frames + 1 })) index
    bad-judges h q = refused-judges (judged-bad p.counted p.fits h (rule-bad t at v q)) p.outside

    pub judged-extra : {next : ℕ} → x ≡ Some (Extra next) → JudgedTo t index₀ next frames channels index
    judged-extra q =
        let n = rule-extra t at v q in
        record {
          fits = p.fits;
          earlier = p.earlier;
          counted = counted-extra p.counted n;
          before = p.before;
          count = p.count;
          lines = p.lines ∙ ap (λ fs. p.before ++ fs) (extra-first t at n.ended n.place n.extra);
          places = p.places;
          outside = p.outside;
        }

    pub judged-frame : {f : FrameEnd} {one : ℕ} {index' : List ℕ} → x ≡ Some (Frame f) →
        (frames_of index' ≡ set (set (frames_of index) (frame_words * frames) at) (frame_words * frames + 1) (f.end - at)) × Outside frames_start frame_table_words index index' →
        one ≡ channels_of (bytes_of (take (f.end - at) (drop at t))) → JudgedTo t index₀ f.next (frames + 1) (channels + one) index'
    judged-frame {f} q wrote is =
        let n = rule-frame t at v q in
        let l = line_chars (drop at t) in
        let long : f.end - at ≡ length l = omega (arith, ap length n.is, length-take (f.end - at) (drop at t), length-drop at t, n.from, n.less, n.within) in
        record {
          fits = p.fits;
          earlier = p.earlier ++ (n.frame ∷ []);
          counted = counted-frame p.counted n is;
          before = p.before ++ (record { start = at; line = l } ∷ []);
          count = omega (arith, length-append p.before (record { start = at; line = l } ∷ []), p.count);
          lines = p.lines ∙ ap (λ fs. p.before ++ fs) (frame-first t at n.ended n.place n.counted) ∙ sym (append_snoc p.before (record { start = at; line = l }) (frame_lines_from f.next (lines_of (drop f.next t)).ended));
          places = place-entered at frame_table_words p.before l p.places p.count long wrote.0;
          outside = outside-then p.outside wrote.1;
        }

  pub all-judges : length t ≤ at → Judges t index₀ (Ok (record { frames = frames; channels = channels })) index
  unfolding told frame_table frame_lines_from lines_of
  all-judges h =
      let none_left : drop at t ≡ [] = drop_of_length-le t {i = at} h in
      let all_lines : p.before ≡ frame_lines_of t = sym (p.lines ∙ ap (λ l. p.before ++ frame_lines_from at (lines_of l).ended) none_left ∙ append-nil p.before) in
      record {
        is = judged-end p.counted p.fits h;
        places = λ n q. p.places ∙ ap (λ fs. padded frame_table_words (spell_all frame_entry fs)) all_lines;
        outside = p.outside;
      }
