-- What a statement with one body is round it. (This project's own.)
use Rattle.std.specs.Prelude.{Bool, true, false, Option, None, Some}
use Rattle.hh_base.specs.declared.value.Pos.{Pos}
use Rattle.hh_term.specs.declared.term.Term.{Term}
use Rattle.hh_term.specs.Placed.{Placed, Nothing, Pause, If, Seq, Loop, Trap, placed_term}
use Rattle.hh_term.specs.Placed as placed
use Rattle.kernel_expand.specs.Forms as form
use Rattle.kernel_expand.specs.Interpretation.{test_of}
use Rattle.kernel_expand.specs.Numbering.{Numbered, Piece, in_numbers}
use Rattle.statement_build.specs.declared.shapes.Plain.{Plain}
use Rattle.statement_build.specs.declared.shapes.Plain.TheVariants as plain
use Rattle.statement_build.specs.declared.shapes.Suspend.{Suspend}
use Rattle.statement_build.specs.declared.shapes.Suspend.TheVariants as suspend
use Rattle.statement_build.specs.declared.shapes.Abort.{Abort}
use Rattle.statement_build.specs.declared.shapes.Abort.TheVariants as abort
use Rattle.statement_build.specs.declared.shapes.Shape.{Shape}
use Rattle.statement_build.specs.declared.shapes.Shape.TheVariants as shape
use Rattle.statement_build.specs.declared.shapes.Inner.{Inner}
use Rattle.statement_build.specs.declared.shapes.Wrap.{Wrap}
use Rattle.statement_build.specs.Building.{around_of}
use Rattle.statement_build.specs.Forms.{watches, counts, nested}

abbrev pub nests : Pos → Plain → Placed → Placed
nests at plain.Body t = t
nests at plain.Trap t = Trap at t
nests at (plain.Then e) t = If at e t (Nothing at)
nests at (plain.Locals ss) t = nested at ss.items t

abbrev pub suspends : Pos → Suspend → Placed → Placed
suspends at (suspend.Later e) t = placed.Suspend at e t
suspends at (suspend.Now e d) t = placed.Suspend at e (Seq at (If at d (Pause at) (Nothing at)) t)

-- round a body behind which so much is numbered
abbrev pub aborts : Pos → Numbered → Abort → Placed → Placed
aborts at n (abort.Once e x) t =
    form.beside at (placed.Suspend at e t) (form.waits at (in_numbers n (test_of x.now)))
aborts at n (abort.Now d e x) t =
    If at d (Nothing at) (form.beside at (placed.Suspend at e t) (form.waits at (in_numbers n (test_of x.now))))
aborts at n (abort.Count s i x) t = counts at s i (in_numbers n (test_of x.now)) t
aborts at n (abort.Weak d) t = form.beside at t (watches at d.now n)

abbrev pub shaped : Pos → Numbered → Shape → Placed → Placed
shaped at n (shape.Plain c) t = nests at c t
shaped at n (shape.Suspend c) t = suspends at c t
shaped at n (shape.Abort c) t = aborts at n c t

abbrev pub halted : Pos → Bool → Placed → Placed
halted at true t = Seq at t (form.halts at)
halted at false t = t

abbrev pub looped : Pos → Bool → Placed → Placed
looped at true t = Loop at t
looped at false t = t

abbrev pub behind : Pos → Option Term → Placed → Placed
behind at None t = t
behind at (Some w) t = Seq at (placed_term w) t

abbrev pub closed : Pos → Numbered → Wrap → Placed → Placed
closed at n w t = behind at w.before (looped at w.looped (shaped at n w.inner.shape (halted at w.halts t)))

-- a piece with this round it
abbrev pub wrapped : Pos → Wrap → Piece → Numbered → Placed × Numbered
wrapped at w p n = let x = p (around_of w.inner.around) n in (closed at x.1 w x.0, x.1)

-- the shape alone round a piece
abbrev pub inside : Pos → Inner → Piece → Numbered → Placed × Numbered
inside at c p n = let x = p (around_of c.around) n in (shaped at x.1 c.shape x.0, x.1)
