-- The cells of a heap in words and back.
use Rattle.std.specs.Prelude.{ℕ, zero, suc, ◌+◌, ◌*◌, ◌≤◌, List, [], ◌∷◌, ◌++◌, ◌≡◌, refl, length, get_or, take, drop}
use Rattle.std.proofs.Common.{append_assoc, ap, ◌∙◌, arith, length-append, length-drop, take_at, drop_at, take-add, length-take-le}
use Rattle.std.proofs.Math.Option.{some}
use Rattle.language.specs.Limits.{fields_most, cell_words}
use Rattle.language.specs.Result.{chain}
use Rattle.language.specs.Syntax.{File}
use Rattle.language.specs.Within.{All, all_nil, all_cons}
use Rattle.language.specs.Format.{spell_all}
use Rattle.language.specs.Heap.{Cell, fields_in}
use Rattle.language.specs.Layout.{padded, words_of, cells_of_words}
use Rattle.theory.specs.Tests.{Whenever, w_some, whenever-chain}
use Rattle.theory.specs.Padding.{padded-length}
use Rattle.theory.specs.CellWords.{Writable, cell-read-back, CellRead, cell-read}

cell-words-length : (c : Cell) → length (words_of c) ≡ cell_words
unfolding words_of
cell-words-length c = ap (λ n. suc (suc n)) (padded-length fields_most (fields_in c))

pub heap-words-length : (h : List Cell) → length (spell_all words_of h) ≡ cell_words * length h
unfolding spell_all
heap-words-length [] = refl
heap-words-length (c ∷ h) = omega (arith, length-append (words_of c) (spell_all words_of h), cell-words-length c, heap-words-length h)

-- ---- from the cells' words
pub cells-read-back : {P : File} {h : List Cell} → All (Writable P) h → (rest : List ℕ) → cells_of_words P (length h) (spell_all words_of h ++ rest) ≡ some h
unfolding cells_of_words spell_all words_of chain
cells-read-back all_nil rest = refl
cells-read-back {P} (all_cons {a = c} {l = h} w ws) rest =
    let fields = padded fields_most (fields_in c) in
    let after : List ℕ = spell_all words_of h ++ rest in
    let size : length fields ≡ fields_most = padded-length fields_most (fields_in c) in
    rw (append_assoc fields (spell_all words_of h) rest, take_at fields after fields_most size, drop_at fields after fields_most size, cell-read-back w, cells-read-back ws rest)

-- ---- what is read
pub record CellsRead (n : ℕ) (ws : List ℕ) (h : List Cell) : Type 0 where
  pub count : length h ≡ n
  pub words : cell_words * n ≤ length ws → take (cell_words * n) ws ≡ spell_all words_of h

first-six : (ws : List ℕ) → cell_words ≤ length ws → take cell_words ws ≡ get_or ws 0 0 ∷ get_or ws 1 0 ∷ take fields_most (drop 2 ws)
first-six [] le = absurd (omega arith)
first-six (v ∷ []) le = absurd (omega arith)
first-six (v ∷ w ∷ ws) le = refl

one-more-read : {n : ℕ} {ws : List ℕ} {c : Cell} {h : List Cell} → CellRead (get_or ws 0 0) (get_or ws 1 0) (take fields_most (drop 2 ws)) c → CellsRead n (drop cell_words ws) h → CellsRead (suc n) ws (c ∷ h)
unfolding spell_all
one-more-read {n} {ws} {c} {h} r q = record {
  count = ap suc q.count;
  words = λ le.
      let more : cell_words * suc n ≡ cell_words + cell_words * n = omega arith in
      let first : take cell_words ws ≡ words_of c = first-six ws (omega arith) ∙ r.words (length-take-le fields_most (drop 2 ws) (omega (arith, length-drop 2 ws))) in
      rw (more, take-add cell_words (cell_words * n) ws, first, q.words (omega (arith, length-drop cell_words ws)));
}

pub cells-read : (P : File) (n : ℕ) (ws : List ℕ) → Whenever (CellsRead n ws) (cells_of_words P n ws)
unfolding cells_of_words spell_all
cells-read P zero ws = w_some (record { count = refl; words = λ le. refl })
cells-read P (suc n) ws = whenever-chain (cell-read (get_or ws 0 0) (get_or ws 1 0) (take fields_most (drop 2 ws)) P) (λ c r. whenever-chain (cells-read P n (drop cell_words ws)) (λ h q. w_some (one-more-read r q)))
