-- A section is read as it is written, and nothing else is.
use Rattle.std.proofs.Common.{◌≡◌, ℕ, Bool, true, List, [], ◌∷◌, ◌++◌, Option, Some, None, refl, sym, ap}
use Rattle.std.proofs.Common.{◌∙◌, subst, length, append_assoc}
use Rattle.std.specs.List.{flat_map, AllByRecursion}
use Rattle.net_text.specs.NetText.{heading, section}
use Rattle.net_line.specs.Formed.{IsSmall, IsSectionForm}
use Rattle.net_line.specs.GateReading.{heading_of, section_of}
use Rattle.net_line.specs.Reading.{Reader, and_then, ◌>>=◌, times, plain}
use Rattle.net_line.proofs.Chain.{between, ReadsAll, Anything}
use Rattle.net_line.proofs.Gates.{reads_heading, times_read, times_only}

pub reads_section : {A : Type 0} (word : List ℕ) → plain word ≡ true → (r : Reader A) (W : A → List ℕ)
    (F : A → Type 0) → ReadsAll Anything r W F
    → ReadsAll Anything (section_of word r) (section word W) (IsSectionForm F)
reads_section {A} word h r W F one = record {
  complete = λ xs u f c e.
      let head = reads_heading word h in
      ap (section_of word r) (append_assoc (heading word (length xs)) (flat_map W xs) c)
      ∙ ap (λ o. and_then o (λ n. times n r)) (head.complete (length xs) tt f.counted (flat_map W xs ++ c) tt)
      ∙ times_read one (λ a g d k. tt) xs f.each c tt;
  sound = λ l xs c e.
      let b = between (heading_of word l) (λ n. times n r) xs c e in
      let k = (reads_heading word h).sound l b.first b.mid b.read in
      let t = times_only one (λ a g d k. tt) b.first b.mid xs c b.then_read in (
        k.0 ∙ (λ i. heading word (sym t.2 i) ++ t.0 i) ∙ sym (append_assoc (heading word (length xs))
            (flat_map W xs) c),
        record { counted = subst IsSmall (sym t.2) k.1; each = t.1 },
        tt,
      );
}
