use Rattle.std.proofs.Common.{◌≡◌, drop}
use Rattle.races.specs.Fires.{fired}
use Rattle.record.proofs.record.moving.complement_all.Given as goal

abbrev pub invariant-loop-signal : goal.invariant-loop-signal
invariant-loop-signal l = fired l.tables (drop l.signal-index l.signals) l.values ≡ fired l.tables l.signals l.initial.values
