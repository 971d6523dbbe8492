-- What the check of an expression answers of what was judged. (This project's own.)
use Rattle.std.specs.Prelude.{◌≡◌, Some, None, Result, Ok, Err, []}
use Rattle.hh_base.specs.declared.value.Kind.{Kind}
use Rattle.host_expr.specs.declared.check.TypeFault.{TypeFault}
use Rattle.host_expr.specs.Misfit.{Judged, first_of}

-- its kind and no misfit, or no kind and the first misfit
pub record Fits (j : Judged) (k : Kind) : Type 0 where
  pub kind : j.kind ≡ Some k
  pub none : j.misfits ≡ []

pub record Fails (j : Judged) (e : TypeFault) : Type 0 where
  pub kind : j.kind ≡ None
  pub first : first_of j.misfits ≡ Some e.pos

abbrev pub IsVerdict : Judged → Result Kind TypeFault → Type 0
IsVerdict j (Ok k) = Fits j k
IsVerdict j (Err e) = Fails j e
