-- The parts of each form, behind its head.
use Rattle.std.specs.Prelude.{ℕ, List}
use Rattle.language.specs.Syntax.{Expr}
use Rattle.language.specs.Scope.{Scope}
use Rattle.heads.specs.declared.Form.{Form}
use Rattle.heads.specs.declared.Form.TheVariants.{Bool as BoolForm, Int, Variable, Now, Last, Let, If, Operator, Call, Construct, Case, Adjust, Fit, Missing}
use Rattle.heads.specs.HeadForms.{LetHead, IfHead, OpHead, CallHead, ConHead, CaseHead, AdjHead, FitHead}
use Rattle.size_steps.specs.declared.Site.{Site}
use Rattle.size_laws.specs.Promises.{FormPart}

abbrev pub Part : Type 1
Part = List ℕ → Site → Scope → ℕ → Expr → Type 0

abbrev pub LetPart : Part
LetPart = FormPart LetHead

abbrev pub IfPart : Part
IfPart = FormPart IfHead

abbrev pub OpPart : ℕ → Part
OpPart o = FormPart (λ line from at n S e. OpHead line from at n S e o)

abbrev pub CallPart : ℕ → Part
CallPart f = FormPart (λ line from at n S e. CallHead line from at n S e f)

abbrev pub ConPart : ℕ → ℕ → Part
ConPart t c = FormPart (λ line from at n S e. ConHead line from at n S e t c)

abbrev pub CasePart : ℕ → Part
CasePart t = FormPart (λ line from at n S e. CaseHead line from at n S e t)

abbrev pub AdjPart : Part
AdjPart = FormPart AdjHead

abbrev pub FitPart : ℕ → Part
FitPart k = FormPart (λ line from at n S e. FitHead line from at n S e k)

-- by the form; a leaf has no parts
abbrev pub CompoundPart : Form → Part
CompoundPart (BoolForm b) = λ line p S end e. ⊥
CompoundPart (Int n) = λ line p S end e. ⊥
CompoundPart (Variable v) = λ line p S end e. ⊥
CompoundPart (Now c) = λ line p S end e. ⊥
CompoundPart (Last c) = λ line p S end e. ⊥
CompoundPart Let = LetPart
CompoundPart If = IfPart
CompoundPart (Operator o) = OpPart o
CompoundPart (Call f) = CallPart f
CompoundPart (Construct t c) = ConPart t c
CompoundPart (Case t) = CasePart t
CompoundPart Adjust = AdjPart
CompoundPart (Fit k) = FitPart k
CompoundPart Missing = λ line p S end e. ⊥
