-- What the form of a line asks of a body, a test, an emission and an async site: numbers of 32 bits,
-- expressions and literals that can be written, and in version 1 nothing that only version 2 says. (This
-- project's own.)
use Rattle.std.specs.Prelude.{◌≡◌, ℕ, Bool, true, false, Option, Some, None, List, length}
use Rattle.std.specs.List.{AllByRecursion}
use Rattle.host_expr.specs.declared.expr.Expr.{Expr}
use Rattle.host_expr.specs.Expression.{expression_of}
use Rattle.hh_term.specs.declared.program.BodyDecl.{BodyDecl}
use Rattle.net_list.specs.Form.{IsWritten}
use Rattle.net_list.specs.declared.record.Sent.{Sent}
use Rattle.net_list.specs.declared.record.Sent.TheVariants as sent
use Rattle.net_list.specs.declared.record.NetTest.{NetTest}
use Rattle.net_list.specs.declared.record.NetEmit.{NetEmit}
use Rattle.net_list.specs.declared.record.NetExec.{NetExec}
use Rattle.net_line.specs.ExpressionForm.{IsExpressionForm}
use Rattle.net_line.specs.Formed.{IsSmall, IsHandlerForm}
use Rattle.net_line.specs.Literals.{is_name_part}
use Rattle.net_line.specs.Reading.{plain}

-- the version whose lines say more, or the first one
abbrev pub version_of : Bool → ℕ
version_of true = 2
version_of false = 1

-- a number that only version 2 says, and that is 0 in version 1
abbrev pub IsLaterForm : Bool → ℕ → Type 0
IsLaterForm true n = IsSmall n
IsLaterForm false n = n ≡ 0

pub record IsLineExpression (e : Expr ℕ) : Type 0 where
  pub written : IsWritten e
  pub form : IsExpressionForm (expression_of e)

abbrev pub IsLineExpressionIfThere : Option (Expr ℕ) → Type 0
IsLineExpressionIfThere (Some e) = IsLineExpression e
IsLineExpressionIfThere None = Unit {0}

-- what may stand for the name of a body: no space, and no quote in front
pub record IsBodyName (w : List ℕ) : Type 0 where
  pub plain : plain w ≡ true
  pub part : is_name_part w ≡ true

pub record IsBodyForm (b : BodyDecl) : Type 0 where
  pub name : IsBodyName b.name
  pub params : IsSmall (length b.params)
  pub expr : IsLineExpressionIfThere b.expr
  pub pos : IsSmall b.pos.0

pub record IsTestForm (later : Bool) (t : NetTest) : Type 0 where
  pub control : IsSmall t.control
  pub expr : IsLineExpression t.expr
  pub pos : IsLaterForm later t.pos.0

abbrev pub IsSentForm : Sent → Type 0
IsSentForm sent.Nothing = Unit {0}
IsSentForm (sent.Computed e) = IsLineExpression e
IsSentForm (sent.Answer x) = IsSmall x

pub record IsEmitForm (later : Bool) (e : NetEmit) : Type 0 where
  pub control : IsSmall e.control
  pub signal : IsSmall e.signal
  pub sent : IsSentForm e.sent
  pub pos : IsLaterForm later e.pos.0

abbrev pub IsSmallIfThere : Option ℕ → Type 0
IsSmallIfThere (Some n) = IsSmall n
IsSmallIfThere None = Unit {0}

pub record IsExecGatesForm (later : Bool) (e : NetExec) : Type 0 where
  pub go : IsSmall e.go
  pub reg : IsSmall e.reg
  pub end : IsSmall e.end
  pub used : IsLaterForm later e.used
  pub held : IsSmall e.held
  pub resumed : IsSmall e.resumed
  pub next : IsSmall e.next

pub record IsHandlersForm (e : NetExec) : Type 0 where
  pub kill : IsHandlerForm e.site.kill
  pub suspend : IsHandlerForm e.site.suspend
  pub resume : IsHandlerForm e.site.resume

pub record IsExecForm (later : Bool) (e : NetExec) : Type 0 where
  pub body : IsSmall e.site.body
  pub signal : IsSmallIfThere e.site.signal
  pub gates : IsExecGatesForm later e
  pub handlers : IsHandlersForm e
  pub count : IsSmall (length e.site.args)
  pub args : AllByRecursion IsLineExpression e.site.args
  pub pos : IsLaterForm later e.pos.0
