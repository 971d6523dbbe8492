-- A text compiles to one program at most, and not where it is refused.
use Rattle.std.proofs.Common.{◌≡◌, ℕ, true, Option, Some, None, List, Result, Ok, Err, refl, sym, ◌∙◌, ap, subst, arith}
use Rattle.std.proofs.lemmas.Str.{utf8_valid_len-IsUtf8, utf8_valid_len-IsValidUpTo, IsUtf8-from_is_utf8}
use Rattle.std.specs.Str.{is_utf8}
use Rattle.module_tree.specs.declared.source.Part.{Part}
use Rattle.module_reader.specs.Reading.{HasTree, IsFirstFault, IsByRule}
use Rattle.module_reader.specs.declared.fault.ReadFault.{ReadFault}
use Rattle.module_reader.specs.declared.fault.ReadFault.TheVariants.{Token, Grammar, NoModule, NoMemory}
use Rattle.hh_term.specs.declared.program.Program.{Program}
use Rattle.hh_term.specs.ProgramView.{kernel_of, placed_of}
use Rattle.link_faults.specs.FirstFault as link
use Rattle.module_link.specs.Resolved.{resolved_parts}
use Rattle.kernel_expand.specs.declared.fault.ExpandFault.{ExpandFault}
use Rattle.kernel_expand.specs.Expansion.{Expansion, expansion_of, kernel_of_expansion}
use Rattle.kernel_expand.specs.Refusals.{refusal_of}
use Rattle.module_compile.specs.declared.fault.ModuleFault.{ModuleFault}
use Rattle.module_compile.specs.declared.fault.ModuleFault.TheVariants.{NotUtf8, Read, Link, Expand}
use Rattle.module_compile.specs.declared.fault.CompileError.{CompileError}
use Rattle.module_compile.specs.declared.fault.CompileError.TheVariants as error
use Rattle.module_compile.specs.Compiling.{IsTreeOf, HasExpansion, IsRefused, CompilesTo, Compiles, LinksFrom, unread}

-- a text has one expansion at most
pub one_expansion : (text : List ℕ) (x y : Expansion) → HasExpansion text x → HasExpansion text y → x ≡ y
one_expansion text x y a b =
    a.expanded ∙ ap (λ (t : List (Part (List ℕ))). expansion_of (resolved_parts t)) (b.read.only a.tree a.read.has)
    ∙ sym b.expanded

pub one_kernel : (text : List ℕ) (p q : Program) → CompilesTo text p → CompilesTo text q → kernel_of p ≡ kernel_of q
one_kernel text p q a b =
    a.program.kernel ∙ ap kernel_of_expansion (one_expansion text a.expansion b.expansion a.linked b.linked)
    ∙ sym b.program.kernel

-- with its positions, too
pub one_statement : (text : List ℕ) (p q : Program) → CompilesTo text p → CompilesTo text q
    → (placed_of p).statement ≡ (placed_of q).statement
one_statement text p q a b =
    a.program.statement
    ∙ ap (λ (x : Expansion). x.statement) (one_expansion text a.expansion b.expansion a.linked b.linked)
    ∙ sym b.program.statement

no_refusal : (o : Option ExpandFault) (f : ExpandFault) → o ≡ None → o ≡ Some f → ⊥
no_refusal None f none some = cc
no_refusal (Some g) f none some = cc

pub refused_is_none : (text : List ℕ) (f : ModuleFault) (p : Program) → IsRefused text f → CompilesTo text p → ⊥
refused_is_none text (NotUtf8 n) p r c =
    let short = r.short in
    let all = utf8_valid_len-IsUtf8 text (IsUtf8-from_is_utf8 text c.linked.read.utf8) in
    let front = utf8_valid_len-IsValidUpTo text n.0 r in
    omega arith
refused_is_none text (Read f) p r c = r.none c.linked.tree c.linked.read.has
refused_is_none text (Link f) p r c =
    c.linked.faultless f.kind f.pos
    (subst (λ (t : List (Part (List ℕ))). link.HasFault t f.kind f.pos) (c.linked.read.only r.tree r.read.has) r.first.found)
refused_is_none text (Expand f) p r c =
    no_refusal (refusal_of c.expansion) f c.accepted
    (ap refusal_of (one_expansion text c.expansion r.expansion c.linked r.linked) ∙ r.first)

pub tree_compiles : (text : List ℕ) (tree : List (Part (List ℕ))) (r : Result Program CompileError)
    → IsTreeOf text tree → LinksFrom tree r → Compiles text r
tree_compiles text tree (Ok p) read (faultless, (accepted, program)) =
    record {
      expansion = expansion_of (resolved_parts tree);
      linked = record { tree = tree; read = read; faultless = faultless; expanded = refl };
      accepted = accepted;
      program = program;
    }
tree_compiles text tree (Err (error.Fault (NotUtf8 p))) read h = absurd h
tree_compiles text tree (Err (error.Fault (Read f))) read h = absurd h
tree_compiles text tree (Err (error.Fault (Link f))) read h = record { tree = tree; read = read; first = h }
tree_compiles text tree (Err (error.Fault (Expand f))) read (faultless, refused) =
    record {
      expansion = expansion_of (resolved_parts tree);
      linked = record { tree = tree; read = read; faultless = faultless; expanded = refl };
      first = refused;
    }
tree_compiles text tree (Err error.NoMemory) read h = tt

pub text_unread : (text : List ℕ) (f : ReadFault) → is_utf8 text ≡ true → IsFirstFault text f → IsByRule text f
    → ((tree : List (Part (List ℕ))) → HasTree text tree → f ≡ NoMemory) → Compiles text (Err (unread f))
text_unread text (Token f) utf8 first by_rule only =
    record { utf8 = utf8; a_fault = λ h. cc; first = first; by_rule = by_rule; none = λ tree h. let no : Token f ≡ NoMemory = only tree h in cc }
text_unread text (Grammar f) utf8 first by_rule only =
    record { utf8 = utf8; a_fault = λ h. cc; first = first; by_rule = by_rule; none = λ tree h. let no : Grammar f ≡ NoMemory = only tree h in cc }
text_unread text NoModule utf8 first by_rule only =
    record { utf8 = utf8; a_fault = λ h. cc; first = first; by_rule = by_rule; none = λ tree h. let no : NoModule ≡ NoMemory = only tree h in cc }
text_unread text NoMemory utf8 first by_rule only = tt
