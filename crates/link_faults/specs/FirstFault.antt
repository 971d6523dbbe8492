-- Which fault of a text is the first. This project's own.
use Rattle.std.specs.Prelude.{◌≡◌, ℕ, false, Some, None, Option, slice_get}
use Rattle.std.specs.List.{Contains}
use Rattle.hh_base.specs.declared.value.Pos.{Pos}
use Rattle.module_tree.specs.declared.source.NameAt.{NameAt}
use Rattle.module_tree.specs.declared.source.ModuleNode.{ModuleNode}
use Rattle.module_tree.specs.Callables.{modules_of}
use Rattle.run_graph.specs.Reach.{Reaches}
use Rattle.link_faults.specs.declared.fault.LinkKind.{LinkKind}
use Rattle.link_faults.specs.declared.fault.LinkKind.TheVariants as fault
use Rattle.link_faults.specs.declared.fault.LinkFault.{LinkFault}
use Rattle.link_faults.specs.Faults.{is_before}
use Rattle.link_faults.specs.Named.{Name}
use Rattle.link_faults.specs.Rows.{Program, twice_declared, unknown_signal, unknown_module, unknown_trap}
use Rattle.link_faults.specs.Rows.{unknown_body, kind_wrong, emits_input, bad_binding, runs_in, module_place}
use Rattle.link_faults.specs.Rows.{source_runs}

-- the module at place k has a run at this position whose module reaches it
pub record RunsInCycle (parts : Program) (p : Pos) : Type 0 where
  pub caller : ℕ
  pub holder : ModuleNode Name
  pub run : NameAt Name
  pub callee : ℕ
  pub held : slice_get (modules_of parts) caller ≡ Some holder
  pub written : Contains (runs_in holder) run
  pub meant : module_place parts run.name ≡ Some callee
  pub reaches : Reaches (source_runs parts) callee caller
  pub place : run.pos ≡ p

-- the text has a fault of this kind at this position
abbrev pub HasFault : Program → LinkKind → Pos → Type 0
HasFault parts fault.TwiceDeclared p = Contains (twice_declared parts) p
HasFault parts fault.UnknownSignal p = Contains (unknown_signal parts) p
HasFault parts fault.UnknownModule p = Contains (unknown_module parts) p
HasFault parts fault.UnknownTrap p = Contains (unknown_trap parts) p
HasFault parts fault.UnknownBody p = Contains (unknown_body parts) p
HasFault parts fault.KindWrong p = Contains (kind_wrong parts) p
HasFault parts fault.EmitsInput p = Contains (emits_input parts) p
HasFault parts fault.BadBinding p = Contains (bad_binding parts) p
HasFault parts fault.RunCycle p = RunsInCycle parts p

-- the text has this fault, and none that is before it
pub record IsFirstFault (parts : Program) (f : LinkFault) : Type 0 where
  pub found : HasFault parts f.kind f.pos
  pub first : (g : LinkFault) → HasFault parts g.kind g.pos → is_before g f ≡ false

-- the text has no fault
abbrev pub IsFaultless : Program → Type 0
IsFaultless parts = (kind : LinkKind) (p : Pos) → HasFault parts kind p → ⊥

-- the first fault of a text, or none where it has none
abbrev pub IsVerdict : Program → Option LinkFault → Type 0
IsVerdict parts None = IsFaultless parts
IsVerdict parts (Some f) = IsFirstFault parts f
