-- The names that a test writes.
use Rattle.std.proofs.Common.{◌≡◌, ℕ, List, [], ◌∷◌, true, codes, refl, sym, subst}
use Rattle.std.specs.List.{AllByRecursion}
use Rattle.std.specs.Str.{chars, is_utf8}
use lib.Utf8.{encode}
use Rattle.unicode_ident.specs.Ident.{is_xid_start}
use Rattle.ucd_derived.specs.XidStartRanges.{xid_start_ranges}
use Rattle.ucd_table.specs.Rows.{in_ranges}
use Rattle.hh_base.specs.Keyword.{is_keyword}
use Rattle.module_tree.specs.SourceWords.{is_written_name}
use Rattle.module_tree.specs.declared.source.Part.{Part}
use Rattle.module_tree.specs.DeclaredAt.{DeclaredAt, declared_in, NamesGoByPosition}

pub m_is_written : is_written_name (codes "M") ≡ true
unfolding is_utf8 encode is_keyword chars is_xid_start in_ranges xid_start_ranges
m_is_written = refl

pub o_is_written : is_written_name (codes "O") ≡ true
unfolding is_utf8 encode is_keyword chars is_xid_start in_ranges xid_start_ranges
o_is_written = refl

-- the only signal of a text has its position for itself
pub one_has_its_name : (parts : List (Part (List ℕ))) (d : DeclaredAt) → declared_in parts ≡ d ∷ []
    → NamesGoByPosition parts
one_has_its_name parts d one = record {
  name_at = λ p. d.name;
  each = subst (AllByRecursion (λ (e : DeclaredAt). e.name ≡ d.name)) (sym one) (refl, tt);
}
