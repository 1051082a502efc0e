-- The reader gives a file exactly when the text's frames are the file's, the text is not too long, and the file is within the limits.
use Rattle.std.specs.Prelude.{ℕ, ◌≤◌, List, ◌↔◌, ◌≡◌, length, leb}
use Rattle.std.proofs.Common.{sym, ap, ◌∙◌, arith, leb-true, le-leb}
use Rattle.language.specs.Limits.{text_most}
use Rattle.language.specs.Refusals.{no_frame, text_too_long}
use Rattle.language.specs.Result.{ok, bind, need}
use Rattle.language.specs.Syntax.{File}
use Rattle.language.specs.Format.{spell_all, line_text, file_frames, file_text}
use Rattle.language.specs.Within.{all_nil, wt_nil, wf_nil, Within}
use Rattle.language.specs.Text.{text_frames}
use Rattle.language.specs.Reader.{channel_count, empty_file, read_file}
use Rattle.language.specs.Acceptance.{TextOf}
use Rattle.theory.specs.Outcomes.{Sat, when-accepted, outcome-map, bind-outcome, sat-need}
use Rattle.theory.specs.ExactText.{text-back, text-forth}
use Rattle.theory.specs.FileFrames.{channels-of-file}
use Rattle.theory.specs.FramesForth.{SoFar, AllRead, frames-forth}
use Rattle.theory.specs.FramesBack.{frames-back}
use Rattle.theory.specs.SmallFrames.{file-lines}

-- ---- what is read
nothing_yet : (channels : ℕ) → SoFar channels empty_file
nothing_yet channels =
    record { few_types = omega arith; few_functions = omega arith; few_inputs = omega arith; few_nodes = omega arith; types = wt_nil; functions = wf_nil; inputs = all_nil; nodes = λ ns e. all_nil }

-- all frames of a text have been read, and neither it nor their own text is too long
all_read : {t : List ℕ} {fs : List (List ℕ)} {P : File} → length t ≤ text_most → text_frames t ≡ ok fs → length (spell_all line_text fs) ≤ length t → AllRead (channel_count fs) fs P → TextOf P t
unfolding file_text
all_read {t} {fs} {P} short frames long d = let so = d.so_far in record {
  short = short;
  frames = frames ∙ ap ok (sym d.frames);
  within = record {
    text = omega (arith, ap (λ (gs : List (List ℕ)). length (spell_all line_text gs)) d.frames);
    few_types = so.few_types;
    few_functions = so.few_functions;
    few_inputs = so.few_inputs;
    few_nodes = so.few_nodes;
    some_node = d.some_node;
    types = so.types;
    functions = so.functions;
    inputs = so.inputs;
    nodes = so.nodes P.nodes (sym (channels-of-file P) ∙ ap channel_count d.frames);
  };
}

read-sat : (t : List ℕ) → Sat (λ P. TextOf P t) (read_file t)
unfolding read_file file_frames
read-sat t =
    sat-need (leb (length t) text_most) text_too_long no_frame λ fits.
    bind-outcome (text-forth t) λ fs frames F.
    outcome-map (λ P. all_read (leb-true (length t) text_most fits) frames F.1) (frames-forth (channel_count fs) 1 empty_file fs F.0 (nothing_yet (channel_count fs)))

pub reader-forth : (t : List ℕ) (P : File) → read_file t ≡ ok P → TextOf P t
reader-forth t P e = when-accepted (read-sat t) e

-- ---- what is written
pub reader-back : {P : File} {t : List ℕ} → TextOf P t → read_file t ≡ ok P
unfolding read_file need bind
reader-back {P} {t} x = rw (le-leb (length t) text_most x.short, x.frames) (frames-back P (channel_count (file_frames P)) (sym (channels-of-file P)) x.within 1)

pub reader-exact : (t : List ℕ) (P : File) → (read_file t ≡ ok P) ↔ TextOf P t
reader-exact t P = (reader-forth t P, reader-back)

-- a text is of one file
pub one-file : {t : List ℕ} {P Q : File} → TextOf P t → TextOf Q t → P ≡ Q
one-file p q = let is = reader-back p in let too = reader-back q in cc

-- ---- the strict text
pub strict-text : (P : File) → Within P → TextOf P (file_text P)
unfolding file_text
strict-text P w = record { short = w.text; frames = text-back (file_frames P) (file-lines P w); within = w }

-- it is never longer than a text of the file
pub strict-no-longer : {P : File} {t : List ℕ} → TextOf P t → length (file_text P) ≤ length t
unfolding file_text
strict-no-longer {t} x = (when-accepted (text-forth t) x.frames).1

-- no two files within the limits have one
pub file_text-injective : (P Q : File) → Within P → Within Q → file_text P ≡ file_text Q → P ≡ Q
file_text-injective P Q v w e = one-file (strict-text P v) (rw e (strict-text Q w))
