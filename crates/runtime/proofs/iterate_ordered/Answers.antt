-- An iteration of a file of right plain types, no node of which reads itself.
use mathlib.Core.List.{[]}
use borrow.Author.Tests.{not-true, not-false}
use Rattle.runtime.specs.IterateLaws.{lent-refused, words-there, words-cut, slots-there, slots-cut, lends, read-iterated}
use borrow.Author.Rules.{rules}
use Rattle.runtime.proofs.iterate_ordered.Goals as goal

pub returns-then-not-buffers_lent : goal.returns-then-not-buffers_lent
returns-then-not-buffers_lent c = lent-refused c.requires.walked _ _ _ _ _ c.buffers_lent.ensures c.if-not-buffers_lent.true

pub slice_bounds-iterate_lent-end : goal.slice_bounds-iterate_lent-end
slice_bounds-iterate_lent-end c = words-there c.requires.walked [] _ c.args.state.now c.args.scratch.now c.args.slots.now c.buffers_lent.ensures c.if-not-buffers_lent.false c.state_length-words.ensures

pub slice_bounds-iterate_lent-end-2 : goal.slice_bounds-iterate_lent-end-2
slice_bounds-iterate_lent-end-2 c = words-cut c.requires.walked [] _ c.args.state.now c.args.scratch.now c.args.slots.now c.buffers_lent.ensures c.if-not-buffers_lent.false c.state_length-words.ensures

pub slice_bounds-iterate_lent-end-3 : goal.slice_bounds-iterate_lent-end-3
slice_bounds-iterate_lent-end-3 c = slots-there c.requires.walked [] _ c.args.state.now c.args.scratch.now c.args.slots.now c.buffers_lent.ensures c.if-not-buffers_lent.false c.state_length-words.ensures

pub slice_bounds-iterate_lent-end-4 : goal.slice_bounds-iterate_lent-end-4
slice_bounds-iterate_lent-end-4 c = slots-cut c.requires.walked [] _ c.args.state.now c.args.scratch.now c.args.slots.now c.buffers_lent.ensures c.if-not-buffers_lent.false c.state_length-words.ensures

pub iterate_lent-requires : goal.iterate_lent-requires
iterate_lent-requires c = lends c.requires.walked [] _ c.args.state.now c.args.scratch.now c.args.slots.now c.buffers_lent.ensures c.if-not-buffers_lent.false c.state_length-words.ensures c.requires.cleared

pub returns : goal.returns
returns c = read-iterated c.requires.walked _ _ _ _ _ c.buffers_lent.ensures c.if-not-buffers_lent.false c.state_length-words.ensures c.iterate_lent.ensures
