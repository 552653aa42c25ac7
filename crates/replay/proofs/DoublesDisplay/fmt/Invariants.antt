-- The loop of `replay::Doubles`' text: the doubles before the index are written. Assumes nothing.
use Rattle.std.proofs.Common.{take}
use Rattle.std.specs.Fmt.{HasWritten, IsPlainFormatter}
use Rattle.replay.specs.Texts.{texts_of}
use Rattle.replay.proofs.DoublesDisplay.fmt.Given as goal

abbrev pub invariant-loop-x : goal.invariant-loop-x
invariant-loop-x g l = IsPlainFormatter l.fn.f → HasWritten g.W.Write.write_str_gives l.fn.f (texts_of (take l.x-index l.fn.self.0.now)) l.f
