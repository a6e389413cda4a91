use Rattle.std.proofs.Common.{eqb, [], ◌∷◌, length, sym, ap}
use Rattle.std.proofs.lemmas.Bool.{both_ways, eq-eqb}
use Rattle.panels.proofs.session.Session.finish.Goals as goal

pub returns : goal.returns
returns c [] h = absurd (both_ways (eqb (length _) 0) (sym c.if-is_empty.ensures) (eq-eqb (length _) 0 (ap length h)))
returns c (b ∷ line) h = c.end_line.ensures (b ∷ line) h
