-- Texts typed in an ordinary editor, as document 02, R-1, has them, as one table and one computed fact: the frames of each text, or
-- refusal 2 and its frame. Which lines are frames is by definition, so the table says what no theorem about frames can.
use Rattle.std.specs.Prelude.{ℕ, List, [], ◌∷◌, map, ◌≡◌, refl, replicate}
use Prim.Native.String.{String}
use Rattle.language.specs.Refusals.{bad_line, bad_frame}
use Rattle.language.specs.Result.{Result, ok, no}
use Rattle.language.specs.Text.{text_frames}
use Rattle.language.specs.Reader.{read_file}
use Rattle.language.specs.Layout.{padded}
use Rattle.language.specs.Machine.{answer, done}
use Rattle.language.specs.Writer.{write}
use Rattle.theory.specs.Opened.{reading, running}
use Rattle.theory.specs.Tins.{codes}

record EditedText : Type 0 where
  text : String
  frames : Result (List (List ℕ))

texts : List EditedText
texts =
    -- strict lines, and no line at all
    record { text = "01A0\nFF\n"; frames = ok ((0x01 ∷ 0xA0 ∷ []) ∷ (0xFF ∷ []) ∷ []) }
    ∷ record { text = ""; frames = ok [] }
    -- "lower-case digits, spaces between pairs": any number of them
    ∷ record { text = "abcdef\n0aF9\n"; frames = ok ((0xAB ∷ 0xCD ∷ 0xEF ∷ []) ∷ (0x0A ∷ 0xF9 ∷ []) ∷ []) }
    ∷ record { text = "01 0203   04\n"; frames = ok ((0x01 ∷ 0x02 ∷ 0x03 ∷ 0x04 ∷ []) ∷ []) }
    -- "CR LF, empty lines"
    ∷ record { text = "01\r\n02\n"; frames = ok ((0x01 ∷ []) ∷ (0x02 ∷ []) ∷ []) }
    ∷ record { text = "\n01\n\r\n\n02\n"; frames = ok ((0x01 ∷ []) ∷ (0x02 ∷ []) ∷ []) }
    -- "and lines that start with a semicolon", whatever they hold
    ∷ record { text = ";\n; x \t\r;\r\n01\n;02\n"; frames = ok ((0x01 ∷ []) ∷ []) }
    -- "none before the first or after the last", none inside a pair, and no other blank
    ∷ record { text = " 01\n"; frames = no bad_line 1 }
    ∷ record { text = "01 \n"; frames = no bad_line 1 }
    ∷ record { text = "01 \r\n"; frames = no bad_line 1 }
    ∷ record { text = "0 1\n"; frames = no bad_line 1 }
    ∷ record { text = "01 0 2\n"; frames = no bad_line 1 }
    ∷ record { text = "01\t02\n"; frames = no bad_line 1 }
    ∷ record { text = " \n"; frames = no bad_line 1 }
    -- a CR belongs to the end of a line once, directly before LF
    ∷ record { text = "01\r\r\n"; frames = no bad_line 1 }
    ∷ record { text = "\r\r\n"; frames = no bad_line 1 }
    ∷ record { text = "01\r02\n"; frames = no bad_line 1 }
    ∷ record { text = "\r01\n"; frames = no bad_line 1 }
    -- odd, not hexadecimal (the characters next to digits), a semicolon that does not start its line
    ∷ record { text = "012\n"; frames = no bad_line 1 }
    ∷ record { text = "0/\n"; frames = no bad_line 1 }
    ∷ record { text = "0:\n"; frames = no bad_line 1 }
    ∷ record { text = "0@\n"; frames = no bad_line 1 }
    ∷ record { text = "0G\n"; frames = no bad_line 1 }
    ∷ record { text = "0`\n"; frames = no bad_line 1 }
    ∷ record { text = "g0\n"; frames = no bad_line 1 }
    ∷ record { text = "01;\n"; frames = no bad_line 1 }
    ∷ record { text = " ;\n"; frames = no bad_line 1 }
    -- "a last line without LF is 2 and counts as a frame", whatever it holds
    ∷ record { text = "01\n02"; frames = no bad_line 2 }
    ∷ record { text = "01\n\n;"; frames = no bad_line 2 }
    ∷ record { text = "\r"; frames = no bad_line 1 }
    -- "Frames are counted without those extra lines", and the first bad line is named
    ∷ record { text = "\n; x\n01\r\n\n0\n02\n0\n03"; frames = no bad_line 2 }
    ∷ []

all-texts : map (λ (t : EditedText). text_frames (codes t.text)) texts ≡ map (λ (t : EditedText). t.frames) texts
unfolding reading codes texts
all-texts = refl

-- extra lines only: no node, "frame: one after the last"
no-frame-at-all : read_file (codes ";\n\n\r\n") ≡ no bad_frame 1
unfolding reading codes
no-frame-at-all = refl

-- ---- document 01's file of two frames, as an editor may have it, and its strict text
strictly : List ℕ
strictly = codes "03011100000000\n04011100000000170014011300\n"

edited : List ℕ
edited = codes "; adds up its input\r\n03 01 11 00000000\r\n\r\n; node\n04 01 1100000000  17 00 1401 1300\n"

edited-written : write edited (replicate 50 9) ≡ record { answer = answer done; buffer = padded 50 strictly }
unfolding reading running codes strictly edited
edited-written = refl
