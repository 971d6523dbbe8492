-- Declarations of one position have the same name, or none of them has one.
use Rattle.std.proofs.Common.{◌≡◌, List, sym, subst, ap, ◌∙◌}
use Rattle.std.specs.List.{Contains}
use Rattle.std.proofs.lemmas.List.Elements.{All-from_recursion}
use Rattle.module_tree.specs.declared.source.Part.{Part}
use Rattle.module_tree.specs.DeclaredAt.{DeclaredAt, declared_in, NamesGoByPosition}

module _ {R : Type 0} (parts : List (Part R)) (h : NamesGoByPosition parts) where
  name_of : (d : DeclaredAt) → Contains (declared_in parts) d → d.name ≡ h.name_at d.pos
  name_of d is = subst (λ (x : DeclaredAt). x.name ≡ h.name_at x.pos) is.2
      (All-from_recursion (λ (x : DeclaredAt). x.name ≡ h.name_at x.pos) (declared_in parts) h.each is.0 d is.1)

  pub same_name : (d e : DeclaredAt) → Contains (declared_in parts) d → Contains (declared_in parts) e
      → d.pos ≡ e.pos → d.name ≡ e.name
  same_name d e is_d is_e same = name_of d is_d ∙ ap h.name_at same ∙ sym (name_of e is_e)
