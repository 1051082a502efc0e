use Rattle.text_lines.specs.DigitMarks.{lower-marked}
use Rattle.text_lines.proofs.rule_lines.rule_marks.Goals as goal

pub returns : goal.returns
returns c = lower-marked c.digit_marks-marks.ensures
