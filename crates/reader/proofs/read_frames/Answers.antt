-- Frame after frame: at each turn those so far are in the index, and those left decide the rest.
use Prim.Native.Nat.{◌+◌}
use Rattle.std.proofs.Common.{subst, ◌≡◌}
use Rattle.reader.specs.Texts.{Finished}
use mathlib.Core.Path.{refl}
use native.Mathlib.Omega.{arith}
use Rattle.reader.specs.ReadLoop.{frames-start, too_many, line-fits, frame-stops, frame-goes-on, frames-end}
use Rattle.reader.proofs.read_frames.Goals as goal

pub loop-read-init : goal.loop-read-init
loop-read-init c = frames-start c.requires refl refl refl refl

pub returns-then-read-ge-FRAMES_MOST : goal.returns-then-read-ge-FRAMES_MOST
returns-then-read-ge-FRAMES_MOST c = too_many c.loop-read.invariant c.loop-read-test.true c.if-read-ge-FRAMES_MOST.true refl

pub frame-requires : goal.frame-requires
frame-requires c = line-fits c.loop-read.invariant c.loop-read-test.true (omega (arith, c.if-read-ge-FRAMES_MOST.false)) c.frame_line-line.ensures

pub loop-read-preserved : goal.loop-read-preserved
loop-read-preserved c = frame-goes-on c.loop-read.invariant c.loop-read-test.true (omega (arith, c.if-read-ge-FRAMES_MOST.false)) c.frame_line-line.ensures c.frame.ensures c.in-Ok.is

pub returns : goal.returns
returns c = let all : c.args.frames ≡ c.loop-read.read = omega (arith, c.loop-read.auto.read-end, c.loop-read-test.false) in frames-end c.loop-read.invariant c.loop-read-test.false (subst (λ n. Finished c.loop-read.known (n + 1) c.loop-read.index c.finish.result c.finish.new.index) all c.finish.ensures)

pub returns-in-Err : goal.returns-in-Err
returns-in-Err c = frame-stops c.loop-read.invariant c.loop-read-test.true (omega (arith, c.if-read-ge-FRAMES_MOST.false)) c.frame_line-line.ensures c.frame.ensures c.in-Err.is refl
