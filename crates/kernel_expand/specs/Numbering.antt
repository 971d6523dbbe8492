-- The kernel's operations on statements that are yet to be numbered: signals and sites are numbered in the
-- order of the term from left to right, and an exit counts the traps between it and its own. (This project's
-- own.)
use Rattle.std.specs.Prelude.{ℕ, suc, ◌+◌, ◌==◌, Bool, false, cond, Option, Some, None, List, [], ◌∷◌, ◌++◌}
use Rattle.std.specs.Prelude.{map, length, slice_index_or}
use Rattle.hh_base.specs.Value.{default_of}
use Rattle.hh_base.specs.declared.value.Pos.{Pos}
use Rattle.hh_base.specs.declared.value.Kind.{Kind}
use Rattle.hh_base.specs.declared.value.Kind.TheVariants as kind
use Rattle.hh_base.specs.declared.value.Value.{Value}
use Rattle.hh_base.specs.declared.value.Value.TheVariants as value
use Rattle.hh_base.specs.declared.value.Dir.TheVariants as dir
use Rattle.host_expr.specs.declared.expr.Expr.{Expr, roll-Expr}
use Rattle.host_expr.specs.declared.expr.ExprNode.TheVariants as node
use Rattle.host_expr.specs.Expression.{expression_of}
use Rattle.module_tree.specs.declared.source.NameAt.{NameAt}
use Rattle.module_tree.specs.declared.source.ExprAt.{ExprAt}
use Rattle.module_tree.specs.declared.source.SignalNode.{SignalNode}
use Rattle.module_tree.specs.declared.source.Binding.{Binding}
use Rattle.module_tree.specs.declared.source.AsyncNode.{AsyncNode}
use Rattle.hh_term.specs.declared.program.SignalDecl.{SignalDecl}
use Rattle.hh_term.specs.Kernel.{AsyncSite}
use Rattle.hh_term.specs.Placed.{Placed, Nothing, Pause, Emit, If, Suspend, Seq, Par, Loop, Trap, Exit, Local}
use Rattle.hh_term.specs.Placed.{Async}
use Rattle.kernel_expand.specs.Interpretation.{Kernel}
use Rattle.kernel_expand.specs.Renaming.{renamed}

-- what stands round a statement: the traps from the inmost outward, each with its place if the text has it,
-- and the number of the inmost counter
pub record Around : Type 0 where
  pub traps : List (Option ℕ)
  pub counter : ℕ

-- what was numbered before it: the program's signals and sites, the numbers of its module's signals by their
-- places, and how many traps of its module
pub record Numbered : Type 0 where
  pub signals : List SignalDecl
  pub sites : List AsyncSite
  pub places : List ℕ
  pub traps : ℕ

-- a statement that is yet to be numbered
abbrev pub Piece : Type 0
Piece = Around → Numbered → Placed × Numbered

abbrev pub number_of : Numbered → ℕ → ℕ
number_of before place = slice_index_or before.places place 0

abbrev pub in_numbers : Numbered → Expr ℕ → Expr ℕ
in_numbers before = renamed (number_of before)

abbrev pub value_in_numbers : Numbered → Option (Expr ℕ) → Option (Expr ℕ)
value_in_numbers before None = None
value_in_numbers before (Some e) = Some (in_numbers before e)

abbrev pub first_or_default : Kind → Option Value → Value
first_or_default k None = default_of k
first_or_default k (Some v) = v

abbrev pub local_signal : SignalNode → SignalDecl
local_signal d =
    record {
      name = Some d.name;
      dir = dir.Local;
      kind = d.kind;
      first = first_or_default d.kind d.first;
      combine = d.combine;
      pos = d.pos;
    }

-- the signal C of `abort count`
abbrev pub counter_signal : Pos → SignalDecl
counter_signal pos = record {
  name = None;
  dir = dir.Local;
  kind = kind.Pure;
  first = value.Unit;
  combine =
      None;
  pos = pos;
}

abbrev pub with_signal : SignalDecl → Numbered → Numbered
with_signal d n = record {
  signals = n.signals ++ d ∷ [];
  sites = n.sites;
  places = n.places;
  traps =
      n.traps;
}

abbrev pub with_place : SignalDecl → Numbered → Numbered
with_place d n = record {
  signals = n.signals ++ d ∷ [];
  sites = n.sites;
  places = n.places
      ++ length n.signals ∷ [];
  traps = n.traps;
}

abbrev pub with_site : AsyncSite → Numbered → Numbered
with_site a n = record { signals = n.signals; sites = n.sites ++ a ∷ []; places = n.places; traps = n.traps }

abbrev pub with_trap : Numbered → Numbered
with_trap n = record { signals = n.signals; sites = n.sites; places = n.places; traps = n.traps + 1 }

abbrev pub in_trap : Option ℕ → Around → Around
in_trap t a = record { traps = t ∷ a.traps; counter = a.counter }

abbrev pub is_trap : ℕ → Option ℕ → Bool
is_trap t None = false
is_trap t (Some u) = u == t

-- how many traps stand between
abbrev pub traps_between : ℕ → List (Option ℕ) → ℕ
traps_between t [] = 0
traps_between t (u ∷ us) = cond (is_trap t u) 0 (suc (traps_between t us))

abbrev pub result_in_numbers : Numbered → Option (NameAt ℕ) → Option ℕ
result_in_numbers before None = None
result_in_numbers before (Some n) = Some (number_of before n.name)

abbrev pub site_in_numbers : Numbered → AsyncNode ℕ → AsyncSite
site_in_numbers before a =
    record {
      body = a.body.name;
      signal = result_in_numbers before a.signal;
      args = map (λ (x : ExprAt ℕ). expression_of (in_numbers before x.expr)) a.args;
      kill = a.kill;
      suspend = a.suspend;
      resume = a.resume;
    }

-- inside a run the module's interface are the signals bound to it
abbrev pub inside_run : List (Binding ℕ) → Numbered → Numbered
inside_run bindings n =
    record {
      signals = n.signals;
      sites = n.sites;
      places =
          map (λ (b : Binding ℕ). number_of n b.right.name) bindings;
      traps = 0;
    }

abbrev pub behind_run : Numbered → Numbered → Numbered
behind_run before after = record {
  signals = after.signals;
  sites = after.sites;
  places = before.places;
  traps = before.traps;
}

abbrev pub no_traps : Around
no_traps = record { traps = []; counter = 0 }

-- a node without parts, round one part, and of two parts, the left one first
abbrev pub alone : (Numbered → Placed) → Piece
alone node a n = (node n, n)

abbrev pub round_one : (Numbered → Placed → Placed) → Piece → Piece
round_one node p a n = let x = p a n in (node n x.0, x.1)

abbrev pub of_two : (Numbered → Placed → Placed → Placed) → Piece → Piece → Piece
of_two node p q a n = let x = p a n in let y = q a x.1 in (node n x.0 y.0, y.1)

-- where the body of each module is such a piece
abbrev pub numbering : (ℕ → Piece) → Kernel Piece
numbering modules pos =
    record {
      nothing = alone (λ n. Nothing pos);
      pause = alone (λ n. Pause pos);
      emit = λ s e. alone (λ n. Emit pos (number_of n s) (value_in_numbers n e));
      choice = λ d. of_two (λ n p q. If pos (in_numbers n d) p q);
      suspend = λ d. round_one (λ n p. Suspend pos (in_numbers n d) p);
      seq = of_two (λ n p q. Seq pos p q);
      par = of_two (λ n p q. Par pos p q);
      loop = round_one (λ n p. Loop pos p);
      local = λ d p a n. let x = p a (with_place (local_signal d) n) in
          (Local pos (length n.signals) x.0, x.1);
      async = λ d a n. (Async pos (length n.sites), with_site (site_in_numbers n d) n);
      trap = λ p a n. let x = p (in_trap None a) n in (Trap pos x.0, x.1);
      exit = alone (λ n. Exit pos 0);
      named_trap = λ p a n. let x = p (in_trap (Some n.traps) a) (with_trap n) in (Trap pos x.0, x.1);
      leave = λ t a n. (Exit pos (traps_between t a.traps), n);
      counter = λ p a n. let x = p (record { traps = a.traps; counter = length n.signals })
          (with_signal (counter_signal pos) n) in (Local pos (length n.signals) x.0, x.1);
      suspend_counted = λ p a n. let x = p a n in (
        Suspend pos
            (roll-Expr ℕ (record { pos = pos; node = node.Now a.counter })) x.0,
        x.1,
      );
      emit_counter = λ a n. (Emit pos a.counter None, n);
      run = λ m bindings a n. let x = modules m no_traps (inside_run bindings n) in (x.0, behind_run n x.1);
    }
