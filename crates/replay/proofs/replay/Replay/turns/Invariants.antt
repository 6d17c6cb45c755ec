use Rattle.std.proofs.Common.{◌≡◌, take}
use Rattle.replay.specs.Replays.{turns}
use Rattle.replay.specs.Meaning.{rep_of}
use Rattle.replay.proofs.replay.Replay.turns.Given as goal

abbrev pub invariant-loop-place : goal.invariant-loop-place
invariant-loop-place l = l.turns.items ≡ take l.place (turns (rep_of l.self))
