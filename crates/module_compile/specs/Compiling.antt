-- What a module text compiles to, or the first step that refuses it. (This project's own.)
use Rattle.std.specs.Prelude.{◌≡◌, ◌≢◌, ℕ, true, None, Some, List, Result, Ok, Err}
use Rattle.std.specs.Str.{is_utf8, IsValidUpTo}
use Rattle.hh_base.specs.declared.value.Pos.{Pos}
use Rattle.module_tree.specs.declared.source.Part.{Part}
use Rattle.hh_term.specs.declared.program.Program.{Program}
use Rattle.module_reader.specs.Reading.{HasTree, IsFirstFault, IsByRule}
use Rattle.module_reader.specs.declared.fault.ReadFault.{ReadFault}
use Rattle.module_reader.specs.declared.fault.ReadFault.TheVariants.{Token, Grammar, NoModule, NoMemory}
use Rattle.link_faults.specs.FirstFault as link
use Rattle.link_faults.specs.declared.fault.LinkFault.{LinkFault}
use Rattle.module_link.specs.Resolved.{resolved_parts}
use Rattle.kernel_expand.specs.declared.fault.ExpandFault.{ExpandFault}
use Rattle.kernel_expand.specs.Expansion.{Expansion, expansion_of}
use Rattle.kernel_expand.specs.Refusals.{refusal_of, IsProgramOf}
use Rattle.module_compile.specs.declared.fault.ModuleFault.{ModuleFault}
use Rattle.module_compile.specs.declared.fault.ModuleFault.TheVariants.{NotUtf8, Read, Link, Expand}
use Rattle.module_compile.specs.declared.fault.CompileError.{CompileError}
use Rattle.module_compile.specs.declared.fault.CompileError.TheVariants as error

-- the text has this tree, and no other
pub record IsTreeOf (text : List ℕ) (tree : List (Part (List ℕ))) : Type 0 where
  pub utf8 : is_utf8 text ≡ true
  pub has : HasTree text tree
  pub only : (other : List (Part (List ℕ))) → HasTree text other → other ≡ tree

-- the text is read as a tree without faults of names, kinds and runs, and this is the expansion of that tree
-- with its names resolved
pub record HasExpansion (text : List ℕ) (x : Expansion) : Type 0 where
  pub tree : List (Part (List ℕ))
  pub read : IsTreeOf text tree
  pub faultless : link.IsFaultless tree
  pub expanded : x ≡ expansion_of (resolved_parts tree)

-- it is not read: this is its first fault
pub record IsUnread (text : List ℕ) (f : ReadFault) : Type 0 where
  pub utf8 : is_utf8 text ≡ true
  pub a_fault : f ≢ NoMemory
  pub first : IsFirstFault text f
  pub by_rule : IsByRule text f
  pub none : (tree : List (Part (List ℕ))) → HasTree text tree → ⊥

-- it is read, and this is its first fault of names, kinds and runs
pub record IsUnlinked (text : List ℕ) (f : LinkFault) : Type 0 where
  pub tree : List (Part (List ℕ))
  pub read : IsTreeOf text tree
  pub first : link.IsFirstFault tree f

-- it is linked, and this is the first refusal of its expansion
pub record IsUnexpanded (text : List ℕ) (f : ExpandFault) : Type 0 where
  pub expansion : Expansion
  pub linked : HasExpansion text expansion
  pub first : refusal_of expansion ≡ Some f

-- the text is refused so
abbrev pub IsRefused : List ℕ → ModuleFault → Type 0
IsRefused text (NotUtf8 p) = IsValidUpTo text p.0
IsRefused text (Read f) = IsUnread text f
IsRefused text (Link f) = IsUnlinked text f
IsRefused text (Expand f) = IsUnexpanded text f

-- the text compiles to the program of its expansion, which nothing refuses
pub record CompilesTo (text : List ℕ) (p : Program) : Type 0 where
  pub expansion : Expansion
  pub linked : HasExpansion text expansion
  pub accepted : refusal_of expansion ≡ None
  pub program : IsProgramOf expansion p

-- a program, or the first refusal; want of memory has no cause
abbrev pub Compiles : List ℕ → Result Program CompileError → Type 0
Compiles text (Ok p) = CompilesTo text p
Compiles text (Err (error.Fault f)) = IsRefused text f
Compiles text (Err error.NoMemory) = Unit {0}

-- ---- the steps, one by one (bridges, and no part of a promise)

-- a fault of reading, as an error of compiling
abbrev pub unread : ReadFault → CompileError
unread (Token f) = error.Fault (Read (Token f))
unread (Grammar f) = error.Fault (Read (Grammar f))
unread NoModule = error.Fault (Read NoModule)
unread NoMemory = error.NoMemory

-- what follows from a linked tree
abbrev pub ExpandsFrom : List (Part ℕ) → Result Program CompileError → Type 0
ExpandsFrom linked (Ok p) = (refusal_of (expansion_of linked) ≡ None) × IsProgramOf (expansion_of linked) p
ExpandsFrom linked (Err (error.Fault (Expand f))) = refusal_of (expansion_of linked) ≡ Some f
ExpandsFrom linked (Err (error.Fault _)) = ⊥
ExpandsFrom linked (Err error.NoMemory) = Unit {0}

-- what follows from a tree
abbrev pub LinksFrom : List (Part (List ℕ)) → Result Program CompileError → Type 0
LinksFrom tree (Ok p) = link.IsFaultless tree × ExpandsFrom (resolved_parts tree) (Ok p)
LinksFrom tree (Err (error.Fault (Expand f))) =
    link.IsFaultless tree × ExpandsFrom (resolved_parts tree) (Err (error.Fault (Expand f)))
LinksFrom tree (Err (error.Fault (Link f))) = link.IsFirstFault tree f
LinksFrom tree (Err (error.Fault _)) = ⊥
LinksFrom tree (Err error.NoMemory) = Unit {0}
