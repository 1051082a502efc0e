-- The tables of channels and of frames: one entry more of each, and what they say of those that are there.
use Rattle.std.specs.Prelude.{ℕ, ◌+◌, ◌*◌, ◌≤◌, ◌<◌, List, [], ◌∷◌, ◌++◌, ◌≡◌, refl, length, get_or, replicate}
use Rattle.std.proofs.Common.{append-nil, append_assoc, sym, ap, ◌∙◌, arith, add-zero, length-append, get_or-append-add}
use Rattle.std.proofs.Math.ListN.{get_or-map}
use Rattle.language.specs.Limits.{channels_most}
use Rattle.language.specs.Syntax.{Input, Node}
use Rattle.language.specs.Format.{spell_all}
use Rattle.language.specs.Layout.{padded}
use Rattle.encoding.specs.FrameLines.{FrameLine, frame_lines_of, line_start, line_at}
use Rattle.index.specs.Tables.{channel_words, input_entry, node_entry, channel_table, frame_words, frames_most, frame_entry, frame_table}
use Rattle.index.specs.Lined.{Lined}
use Rattle.index.specs.Padded.{padded-none, padded-at}
use Rattle.index.specs.Entries.{spell-length, spell-at, spell-more, table-so-far}

pub input-wide : (i : Lined Input) → length (input_entry i) ≡ channel_words
unfolding input_entry
input-wide i = refl

pub node_wide : (n : Lined Node) → length (node_entry n) ≡ channel_words
unfolding node_entry
node_wide n = refl

pub no-channels : channel_table [] [] ≡ replicate (channels_most * channel_words) 0
unfolding channel_table spell_all
no-channels = padded-none (channels_most * channel_words)

-- the words before the next channel
pub channels-so-far : (is : List (Lined Input)) (ns : List (Lined Node)) → length (spell_all input_entry is ++ spell_all node_entry ns) ≡ channel_words * (length is + length ns)
channels-so-far is ns = length-append (spell_all input_entry is) (spell_all node_entry ns) ∙ omega (arith, spell-length channel_words input_entry input-wide is, spell-length channel_words node_entry node_wide ns)

-- one input more, while there are no nodes; one node more
pub input-more : (is : List (Lined Input)) (i : Lined Input) → channel_table (is ++ (i ∷ [])) [] ≡ padded (channels_most * channel_words) ((spell_all input_entry is ++ spell_all node_entry []) ++ input_entry i)
unfolding channel_table spell_all
input-more is i = ap (padded (channels_most * channel_words)) (append-nil (spell_all input_entry (is ++ (i ∷ []))) ∙ spell-more input_entry is i ∙ ap (λ l. l ++ input_entry i) (sym (append-nil (spell_all input_entry is))))

pub node-more : (is : List (Lined Input)) (ns : List (Lined Node)) (n : Lined Node) → channel_table is (ns ++ (n ∷ [])) ≡ padded (channels_most * channel_words) ((spell_all input_entry is ++ spell_all node_entry ns) ++ node_entry n)
unfolding channel_table
node-more is ns n = ap (padded (channels_most * channel_words)) (ap (λ l. spell_all input_entry is ++ l) (spell-more node_entry ns n) ∙ sym (append_assoc (spell_all input_entry is) (spell_all node_entry ns) (node_entry n)))

-- the words of a channel: inputs are counted first
pub input-at : (is : List (Lined Input)) (ns : List (Lined Node)) (c j : ℕ) (d : Lined Input) → length is ≤ channels_most → c < length is → j < channel_words → get_or (channel_table is ns) (channel_words * c + j) 0 ≡ get_or (input_entry (get_or is c d)) j 0
unfolding channel_table
input-at is ns c j d few h k = table-so-far channel_words input_entry input-wide (channels_most * channel_words) is (spell_all node_entry ns) c j d (omega arith) h k

pub node_at : (is : List (Lined Input)) (ns : List (Lined Node)) (c j : ℕ) (d : Lined Node) → length is + length ns ≤ channels_most → c < length ns → j < channel_words → get_or (channel_table is ns) (channel_words * (length is + c) + j) 0 ≡ get_or (node_entry (get_or ns c d)) j 0
unfolding channel_table
node_at is ns c j d few h k =
    let place : channel_words * (length is + c) + j ≡ length (spell_all input_entry is) + (channel_words * c + j) = omega (arith, spell-length channel_words input_entry input-wide is) in
    padded-at (channels_most * channel_words) (spell_all input_entry is ++ spell_all node_entry ns) (channel_words * (length is + c) + j) (omega arith)
    ∙ ap (λ i. get_or (spell_all input_entry is ++ spell_all node_entry ns) i 0) place ∙ get_or-append-add (spell_all input_entry is) (spell_all node_entry ns) (channel_words * c + j) 0
    ∙ spell-at channel_words node_entry node_wide ns c j d h k

-- ---- frames
pub frame-wide : (f : FrameLine) → length (frame_entry f) ≡ frame_words
unfolding frame_entry
frame-wide f = refl

pub no_frames : padded (frames_most * frame_words) (spell_all frame_entry []) ≡ replicate (frames_most * frame_words) 0
unfolding spell_all
no_frames = padded-none (frames_most * frame_words)

-- where frame i starts, and how long it is
pub frame_at : (t : List ℕ) (i : ℕ) → i < frames_most → i < length (frame_lines_of t) → (get_or (frame_table t) (frame_words * i) 0 ≡ line_start t i) × (get_or (frame_table t) (frame_words * i + 1) 0 ≡ length (line_at t i))
unfolding frame_table frame_entry
frame_at t i few h = (
  ap (λ k. get_or (frame_table t) k 0) (sym (add-zero (frame_words * i))) ∙ word 0 (omega arith) ∙ sym (get_or-map (λ (f : FrameLine). f.start) (frame_lines_of t) i no_line_of),
  word 1 (omega arith) ∙ ap length (sym (get_or-map (λ (f : FrameLine). f.line) (frame_lines_of t) i no_line_of)),
)
  where
    no_line_of : FrameLine
    no_line_of = record { start = length t; line = [] }

    word : (j : ℕ) → j < frame_words → get_or (frame_table t) (frame_words * i + j) 0 ≡ get_or (frame_entry (get_or (frame_lines_of t) i no_line_of)) j 0
    word j k = padded-at (frames_most * frame_words) (spell_all frame_entry (frame_lines_of t)) (frame_words * i + j) (omega arith) ∙ spell-at frame_words frame_entry frame-wide (frame_lines_of t) i j no_line_of h k
