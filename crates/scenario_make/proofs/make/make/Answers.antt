use Rattle.std.proofs.Common.{◌≡◌, ◌∙◌, ◌≤◌, ◌+◌, ◌*◌, ℕ, List, [], ◌++◌, length, ap, subst, sym, codes}
use Rattle.scenario_make.specs.Make.{branch_line, lines_up_to, made, reaction_line}
use Rattle.scenario_make.proofs.Sizes.{made_size}
use Rattle.scenario_make.proofs.make.make.Goals as goal

is_made : (size : ℕ) (seed : ℕ) (a b c d e : List ℕ) → a ≡ [] → b ≡ a ++ codes "module Gen(in A, out N: int combine plus) {\n"
    → c ≡ b ++ lines_up_to size (branch_line seed) → d ≡ c ++ codes "}\n%% scenario\n" → e ≡ d ++ lines_up_to 100 reaction_line → e ≡ made seed size
unfolding made
is_made size seed a b c d e first second third fourth last =
    last ∙ ap (λ t. t ++ lines_up_to 100 reaction_line) (fourth ∙ ap (λ t. t ++ codes "}\n%% scenario\n")
    (third ∙ ap (λ t. t ++ lines_up_to size (branch_line seed)) (second ∙ ap (λ t. t ++ codes "module Gen(in A, out N: int combine plus) {\n") first)))

pub returns : goal.returns
returns c =
    let is = is_made c.args.size c.args.seed _ _ _ _ _ c.new-text.ensures.items c.in_ok-extend_from_slice.ensures.items
    c.in_ok-add_branches.ensures c.in_ok-extend_from_slice-2.ensures.items c.in_ok-add_reactions.ensures in
    record {
      made = is;
      few = subst (λ (t : List ℕ). length t ≤ 8192 + 64 * c.args.size) (sym is) (made_size c.args.seed c.args.size);
    }
