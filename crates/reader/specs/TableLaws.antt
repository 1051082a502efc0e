-- The index before the first frame, and one frame's place more.
use Rattle.std.specs.Prelude.{ℕ, ◌+◌, ◌*◌, List, [], ◌∷◌, ◌++◌, ◌≡◌, refl, length, set}
use Rattle.std.proofs.Common.{sym, ap, ◌∙◌, arith, length-append}
use Rattle.std.proofs.Math.Seq.{append_snoc}
use Rattle.language.specs.Layout.{padded}
use Rattle.language.specs.Within.{all_nil}
use Rattle.language.specs.Reader.{empty_file}
use Rattle.language.specs.Format.{spell_all}
use Rattle.encoding.specs.FrameLines.{FrameLine}
use Rattle.index.specs.Lined.{lined}
use Rattle.index.specs.Tables.{frame_words, frame_entry}
use Rattle.index.specs.Padded.{padded-next}
use Rattle.index.specs.Entries.{spell-length, spell-more}
use Rattle.index.specs.FrameTable.{frame-wide, no-channels}
use Rattle.index.specs.TypeTable.{no-types}
use Rattle.index.specs.FunctionTable.{no-functions}
use Rattle.reader.specs.Held.{Held}
use Rattle.reader.specs.Texts.{Ready}
use Rattle.index.specs.declared.Counts.{Counts}

-- sections of zeros hold the file without frames
pub blank-held : {text index : List ℕ} {count channels : ℕ} {n : Counts} (lines : ℕ → List ℕ) → Ready text index count channels → n.types ≡ 0 → n.functions ≡ 0 → n.inputs ≡ 0 → n.nodes ≡ 0 → Held lines index n empty_file
unfolding lined
blank-held lines z a b d e = record {
  types_are = z.types_zero ∙ sym no-types;
  functions_are = z.functions_zero ∙ sym no-functions;
  channels_are = z.channels_zero ∙ sym no-channels;
  counted = record { type_count = sym a; function_count = sym b; input_count = sym d; node_count = sym e };
  few_types = omega arith;
  few_functions = omega arith;
  few_inputs = omega arith;
  few_nodes = omega arith;
  parts = all_nil;
  parameters = all_nil;
}

-- ---- one frame's place more: beyond the section nothing is written, and nothing is asked for
padded-two : (n i j : ℕ) (ls : List ℕ) (v w : ℕ) → length ls ≡ i → i + 1 ≡ j → set (set (padded n ls) i v) j w ≡ padded n (ls ++ (v ∷ w ∷ []))
padded-two n i j ls v w e f =
    let next : j ≡ length (ls ++ (v ∷ [])) = omega (arith, length-append ls (v ∷ [])) in
    ap (λ k. set (set (padded n ls) k v) j w) (sym e) ∙ ap (λ l. set l j w) (padded-next n ls v) ∙ ap (λ k. set (padded n (ls ++ (v ∷ []))) k w) next
    ∙ padded-next n (ls ++ (v ∷ [])) w ∙ ap (padded n) (append_snoc ls v (w ∷ []))

pub place-entered : {frames frames' : List ℕ} {read size : ℕ} (at n : ℕ) (fs : List FrameLine) (l : List ℕ) → frames ≡ padded n (spell_all frame_entry fs) → length fs ≡ read → size ≡ length l →
    frames' ≡ set (set frames (frame_words * read) at) (frame_words * read + 1) size → frames' ≡ padded n (spell_all frame_entry (fs ++ (record { start = at; line = l } ∷ [])))
unfolding frame_entry
place-entered {read = read} {size} at n fs l is count long wrote =
    wrote ∙ ap (λ ws. set (set ws (frame_words * read) at) (frame_words * read + 1) size) is
    ∙ padded-two n (frame_words * read) (frame_words * read + 1) (spell_all frame_entry fs) at size (omega (arith, spell-length frame_words frame_entry frame-wide fs)) refl
    ∙ ap (padded n) (ap (λ (k : ℕ). spell_all frame_entry fs ++ (at ∷ k ∷ [])) long ∙ sym (spell-more frame_entry fs (record { start = at; line = l })))
