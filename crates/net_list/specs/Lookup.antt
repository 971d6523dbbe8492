-- What the records of nets say of a place in them.
use Rattle.std.specs.Prelude.{ℕ, Option, Some, None, List, map, slice_get}
use Rattle.hh_base.specs.declared.value.Kind.{Kind}
use Rattle.hh_term.specs.declared.program.BodyDecl.{BodyDecl}
use Rattle.net_list.specs.declared.record.NetRecords.{NetRecords}
use Rattle.net_list.specs.declared.record.NetExec.{NetExec}

-- the kinds of the signals
abbrev pub kinds_of : NetRecords → List Kind
kinds_of N = map (λ s. s.decl.kind) N.signals

-- the body that an exec runs
abbrev pub body_of : NetRecords → NetExec → Option BodyDecl
body_of N e = slice_get N.bodies e.site.body

abbrev pub kind_answered : Option BodyDecl → Option Kind
kind_answered (Some b) = Some b.answer
kind_answered None = None

-- the kind of the answers of exec x
abbrev pub answer_kind : NetRecords → ℕ → Option Kind
answer_kind N x = (elim (slice_get N.execs x) [ Some e ↦ kind_answered (body_of N e) | None ↦ None ])
