-- `order::delay`: four bytes at their place, or 0. Assumes nothing.
use native.Mathlib.Omega.{arith}
use borrow.Author.Tests.{lt-leb, le-leb}
use Rattle.order.specs.Read.{delay_of}
use Rattle.order.proofs.delay.Goals as goal

pub returns-then-i-ge256 : goal.returns-then-i-ge256
unfolding delay_of
returns-then-i-ge256 c = (simp (le-leb _ _ c.if-i-ge256.true), omega arith)

pub returns-then-s-at : goal.returns-then-s-at
unfolding delay_of
returns-then-s-at c = (simp (lt-leb _ _ c.if-i-ge256.false, lt-leb _ _ c.if-s-at.true), omega arith)

pub returns : goal.returns
unfolding delay_of
returns c = (simp (lt-leb _ _ c.if-i-ge256.false, le-leb _ _ c.if-s-at.false, c.field.ensures.0), c.field.ensures.1)
