-- The pass over a whole text: what a line adds to the counts, where it refuses, and what its answer says of the file.
use Rattle.std.specs.Prelude.{ℕ, suc, ◌+◌, ◌-◌, ◌≤◌, ◌<◌, List, [], ◌∷◌, ◌++◌, Bool, true, false, ◌≡◌, refl, length, take, drop, leb}
use Rattle.std.proofs.Common.{append-nil, ◌∙◌, arith, add-one, length-append, le-leb, leb-true}
use Rattle.std.proofs.Math.Path.{sym, ap, ap₂}
use Rattle.std.proofs.Math.Seq.{append_snoc}
use Rattle.std.proofs.lemmas.Bool.{lt-leb}
use Rattle.language.specs.Limits.{text_most}
use Rattle.language.specs.Refusals.{no_frame, text_too_long, bad_line}
use Rattle.language.specs.Result.{Result, ok, no, bind, need, choose}
use Rattle.language.specs.Text.{text_frames}
use Rattle.language.specs.Reader.{is_channel, channel_count, read_file, read_frames, empty_file}
use Rattle.text_lines.specs.declared.FrameCounts.{FrameCounts}
use Rattle.text_lines.specs.declared.rule_lines.FrameEnd.{FrameEnd}
use Rattle.text.specs.Bytes.{bytes_of}
use Rattle.text_lines.specs.Lines.{channels_of, judged, judgement}
use Rattle.text_lines.specs.RuleLines.{line_chars, frames_behind}
use Rattle.text_lines.specs.RuleAnswers.{RuleExtra, RuleFrame, RuleBad}
use Rattle.text_lines.specs.RuleFrames.{frames-of-text, frames-end, frames-behind-extra, frames-behind-frame, frames-refused}
use Rattle.text_lines.specs.LineBytes.{frame-bytes-read}

-- ---- the lines up to a place are frames
pub record Counted (t : List ℕ) (at frames channels : ℕ) (earlier : List (List ℕ)) : Type 0 where
  pub within : at ≤ length t
  pub fewer : frames ≤ at
  pub among : channels ≤ frames
  pub count : length earlier ≡ frames
  pub kinds : channel_count earlier ≡ channels
  pub split : text_frames t ≡ bind (frames_behind (suc frames) (drop at t)) (λ fs. ok (earlier ++ fs))

pub counted_start : (t : List ℕ) → Counted t 0 0 0 []
unfolding channel_count bind
counted_start t = record { within = omega arith; fewer = omega arith; among = omega arith; count = refl; kinds = refl; split = frames-of-text t ∙ go (frames_behind 1 t) }
  where
    go : (r : Result (List (List ℕ))) → r ≡ bind r (λ fs. ok ([] ++ fs))
    go (ok fs) = refl
    go (no n frame) = refl

pub one_at_most : {one : ℕ} (bs : List ℕ) → one ≡ channels_of bs → one ≤ 1
unfolding choose
one_at_most bs is = rw is (go (is_channel bs))
  where
    go : (b : Bool) → choose {A = ℕ} b 1 0 ≤ 1
    go true = omega arith
    go false = omega arith

channels-more : (fs : List (List ℕ)) (f : List ℕ) → channel_count (fs ++ (f ∷ [])) ≡ channel_count fs + channels_of f
unfolding channel_count
channels-more [] f = omega arith
channels-more (g ∷ fs) f = omega (arith, channels-more fs f)

one_more : (earlier : List (List ℕ)) (f : List ℕ) (r : Result (List (List ℕ))) → bind (bind r (λ fs. ok (f ∷ fs))) (λ fs. ok (earlier ++ fs)) ≡ bind r (λ fs. ok ((earlier ++ (f ∷ [])) ++ fs))
unfolding bind
one_more earlier f (ok fs) = ap ok (sym (append_snoc earlier f fs))
one_more earlier f (no n frame) = refl

whole-judged : (t : List ℕ) → length t ≤ text_most → judgement t ≡ judged (text_frames t)
unfolding judgement need
whole-judged t h = rw (le-leb (length t) text_most h)

module _ {t : List ℕ} {at frames channels : ℕ} {earlier : List (List ℕ)} (c : Counted t at frames channels earlier) where
  -- an extra line adds nothing
  pub counted-extra : {next : ℕ} → RuleExtra t at next → Counted t next frames channels earlier
  counted-extra x = record {
    within = x.within;
    fewer = omega (arith, c.fewer, x.from);
    among = c.among;
    count = c.count;
    kinds = c.kinds;
    split = c.split ∙ ap (λ r. bind r (λ fs. ok (earlier ++ fs))) (frames-behind-extra t at x (suc frames));
  }

  pub counted-frame : {f : FrameEnd} {one : ℕ} → (n : RuleFrame t at f) → one ≡ channels_of (bytes_of (take (f.end - at) (drop at t))) → Counted t f.next (frames + 1) (channels + one) (earlier ++ (n.frame ∷ []))
  counted-frame {f} {one} n is =
      let after = frames_behind (suc (suc frames)) (drop f.next t) in
      let kind : one ≡ channels_of n.frame = is ∙ ap (λ k. channels_of (bytes_of k)) n.is ∙ ap channels_of (frame-bytes-read (line_chars (drop at t)) n.frame n.spelled) in
      record {
        within = n.within;
        fewer = omega (arith, c.fewer, n.from, n.less);
        among = omega (arith, c.among, one_at_most n.frame kind);
        count = omega (arith, length-append earlier (n.frame ∷ []), c.count);
        kinds = channels-more earlier n.frame ∙ omega (arith, c.kinds, kind);
        split = c.split ∙ ap (λ r. bind r (λ fs. ok (earlier ++ fs))) (frames-behind-frame t at n (suc frames)) ∙ one_more earlier n.frame after
            ∙ ap (λ k. bind (frames_behind (suc k) (drop f.next t)) (λ fs. ok ((earlier ++ (n.frame ∷ [])) ++ fs))) (sym (add-one frames));
      }

  pub judged-bad : length t ≤ text_most → at < length t → RuleBad t at → no bad_line (frames + 1) ≡ judgement t
  unfolding judged bind
  judged-bad fits h b = sym (whole-judged t fits ∙ ap judged (c.split ∙ ap (λ r. bind r (λ fs. ok (earlier ++ fs))) (frames-refused t at h b (suc frames))) ∙ ap (no bad_line) (sym (add-one frames)))

  frames-are : length t ≤ at → text_frames t ≡ ok earlier
  unfolding bind
  frames-are h = c.split ∙ ap (λ r. bind r (λ fs. ok (earlier ++ fs))) (frames-end t at h (suc frames)) ∙ ap ok (append-nil earlier)

  pub judged-end : length t ≤ text_most → length t ≤ at → ok (record { frames = frames; channels = channels }) ≡ judgement t
  unfolding judged
  judged-end fits h = sym (whole-judged t fits ∙ ap judged (frames-are h) ∙ ap₂ (λ n k. ok (record { frames = n; channels = k })) c.count c.kinds)

pub judged-too-long : (t : List ℕ) → text_most < length t → no text_too_long no_frame ≡ judgement t
unfolding judgement judged need
judged-too-long t h = rw (lt-leb (length t) text_most h)

-- ---- what the answer says of the file
pub record Accepted (t : List ℕ) (count channels : ℕ) : Type 0 where
  pub frames : List (List ℕ)
  pub counted : length frames ≡ count
  pub are : text_frames t ≡ ok frames
  pub fits : length t ≤ text_most
  pub file : read_file t ≡ read_frames channels 1 empty_file frames

pub judged-accepted : (t : List ℕ) (count channels : ℕ) → judgement t ≡ ok (record { frames = count; channels = channels }) → Accepted t count channels
unfolding judgement judged read_file need bind
judged-accepted t count channels e = go (leb (length t) text_most) (text_frames t) refl refl e
  where
    go : (b : Bool) (r : Result (List (List ℕ))) → leb (length t) text_most ≡ b → text_frames t ≡ r → judged (need b text_too_long no_frame r) ≡ ok (record { frames = count; channels = channels }) → Accepted t count channels
    go true (ok fs) q are e =
        let counts : ◌≡◌ {A = FrameCounts} (record { frames = length fs; channels = channel_count fs }) (record { frames = count; channels = channels }) = cc in
        let same : channel_count fs ≡ channels = ap (λ (n : FrameCounts). n.channels) counts in
        record { frames = fs; counted = ap (λ (n : FrameCounts). n.frames) counts; are = are; fits = leb-true (length t) text_most q; file = rw (q, are) (ap (λ n. read_frames n 1 empty_file fs) same) }
    go true (no n frame) q are e = absurd (let z : ◌≡◌ {A = ℕ} 0 1 = cc in omega arith)
    go false r q are e = absurd (let z : ◌≡◌ {A = ℕ} 0 1 = cc in omega arith)

pub judged-refused : (t : List ℕ) (n frame : ℕ) → judgement t ≡ no n frame → read_file t ≡ no n frame
unfolding judgement judged read_file need bind
judged-refused t n frame e = go (leb (length t) text_most) (text_frames t) e
  where
    go : (b : Bool) (r : Result (List (List ℕ))) → judged (need b text_too_long no_frame r) ≡ no n frame → need b text_too_long no_frame (bind r (λ fs. read_frames (channel_count fs) 1 empty_file fs)) ≡ no n frame
    go true (ok fs) e = absurd (let z : ◌≡◌ {A = ℕ} 0 1 = cc in omega arith)
    go true (no m other) e = cc
    go false r e = cc
