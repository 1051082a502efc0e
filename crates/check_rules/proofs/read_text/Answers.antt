-- What a turn reads stands behind what was read before.
use Rattle.std.proofs.Common.{ℕ, ◌+◌, ◌≤◌, ◌≡◌, ◌++◌, ◌∙◌, List, length, take, sym, ap, subst, arith}
use Rattle.std.proofs.Math.Seq.{take-append-add}
use Rattle.std.proofs.lemmas.List.{length-take-le, take-append-le}
use Rattle.std.proofs.KnownBytes.{Consumes-trans}
use Rattle.std.specs.Io.KnownBytes.{Consumes}
use borrow.Rule.Slice.PartMut.{put_mid}
use Rattle.check_rules.proofs.read_text.Goals as goal

taken : (n k m : ℕ) (xs ys : List ℕ) → n ≤ length xs → k ≤ length ys → take (n + k) (put_mid n m xs ys) ≡ take n xs ++ take k ys
taken n k m xs ys low room =
    let long : length (take n xs) ≡ n = length-take-le n xs low in
    ap (λ (a : ℕ). take (a + k) (put_mid n m xs ys)) (sym long) ∙ take-append-add (take n xs) _ k ∙ ap (λ (z : List ℕ). take n xs ++ z) (take-append-le k ys _ room)

pub loop-n-preserved : goal.loop-n-preserved
loop-n-preserved g c =
    let low : c.loop-n.n ≤ length c.loop-n.text = omega arith in
    record {
      within = omega (arith, c.in_ok-k.ensures.bound.0, c.read.auto.buf);
      read = subst (λ (z : List ℕ). Consumes (g.R.Read.remaining c.args.input.now) (g.R.Read.remaining c.read.new.self) z)
          (sym (taken c.loop-n.n c.in_ok-k.k _ c.loop-n.text c.read.new.buf low c.in_ok-k.ensures.bound.0))
          (Consumes-trans _ _ _ _ _ c.loop-n.invariant.read c.in_ok-k.ensures.bytes.0);
    }
