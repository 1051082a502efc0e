use Rattle.text.proofs.Cursor.+size.Given as goal

abbrev pub decreases-size : goal.decreases-size
decreases-size l = l.levels
