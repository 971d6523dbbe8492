-- The sizes that are measured on the linked tree are those of the statement that it expands to.
use Rattle.std.proofs.Common.{◌≡◌, ℕ, ◌+◌, ◌*◌, max, List, [], ◌∷◌, ◌++◌, length, Option, Some, None, refl}
use Rattle.std.proofs.Common.{sym, ap, ◌∙◌, arith, append_assoc, append-nil, length-append}
use Rattle.std.specs.Prelude.{slice_get}
use Rattle.hh_base.specs.declared.value.Kind.{Kind}
use Rattle.hh_base.specs.declared.value.Kind.TheVariants as kind
use Rattle.hh_base.specs.declared.value.Value.{Value}
use Rattle.hh_base.specs.declared.value.Value.TheVariants as value
use Rattle.host_expr.specs.declared.expr.Expr.{Expr}
use Rattle.host_expr.specs.Expression.{optional_expression}
use Rattle.module_tree.specs.declared.source.AsyncNode.{AsyncNode}
use Rattle.hh_term.specs.declared.program.SignalDecl.{SignalDecl}
use Rattle.hh_term.specs.Kernel.{Kernel, AsyncSite, first_at}
use Rattle.hh_term.specs.Sizes.{size_of, copied_size_of, height_of, traps_round, size_of_optional}
use Rattle.hh_term.specs.Sizes.{size_of_site, value_blocks, handler_blocks}
use Rattle.hh_term.specs.Placed.{Placed, unplaced}
use Rattle.kernel_expand.specs.declared.sizes.Sizes.{Sizes}
use Rattle.kernel_expand.specs.Measures.{counted, leaf, around, both, looped, trapped, blocks_of_first}
use Rattle.kernel_expand.specs.Measures.{weight_of_async}
use Rattle.kernel_expand.specs.Numbering.{Around, Numbered, Piece, number_of, value_in_numbers}
use Rattle.kernel_expand.specs.Numbering.{first_or_default, site_in_numbers}
use Rattle.kernel_expand.proofs.SameSizes.{same_sizes}
use Rattle.kernel_expand.proofs.RenamedSizes.{same_size, same_arguments}

abbrev pub weighed : Kernel → Placed → ℕ → Sizes
weighed K t sites =
    record {
      size = counted (size_of K (unplaced t));
      copied = counted (copied_size_of K (unplaced t));
      height = counted (height_of (unplaced t));
      traps = counted (traps_round (unplaced t));
      sites = counted sites;
    }

-- the program has these signals and sites first
pub record Begins (signals : List SignalDecl) (sites : List AsyncSite) (K : Kernel) : Type 0 where
  pub more_signals : List SignalDecl
  pub signals_are : K.signals ≡ signals ++ more_signals
  pub more_sites : List AsyncSite
  pub sites_are : K.sites ≡ sites ++ more_sites

-- a numbered statement has these sizes in each program that goes on from it
pub record Weighs (t : Placed) (signals : List SignalDecl) (sites : List AsyncSite)
    (before_signals : List SignalDecl) (before_sites : List AsyncSite) (s : Sizes) : Type 0 where
  pub new_signals : List SignalDecl
  pub signals_are : signals ≡ before_signals ++ new_signals
  pub new_sites : List AsyncSite
  pub sites_are : sites ≡ before_sites ++ new_sites
  pub sizes : (K : Kernel) → Begins signals sites K → s ≡ weighed K t (length new_sites)

abbrev pub WeighsIn : Placed × Numbered → Numbered → Sizes → Type 0
WeighsIn x before s = Weighs x.0 x.1.signals x.1.sites before.signals before.sites s

abbrev pub HasSizes : Piece → Sizes → Type 0
HasSizes p s = (a : Around) (n : Numbered) → WeighsIn (p a n) n s

-- ---- sums that stop at the greatest number

pub leaf_weighs : (sites w v h t : ℕ) → w ≡ counted v
    → leaf sites w ≡ record {
      size = counted (1 + v);
      copied = counted (1 + v);
      height = 1;
      traps =
          0;
      sites = sites;
    }
unfolding leaf
leaf_weighs sites w v h t e = same_sizes (omega arith) (omega arith) refl refl refl

pub around_weighs : (w v a b c d e : ℕ) → counted w ≡ counted v
    → around w (record {
      size = counted a;
      copied = counted b;
      height = counted c;
      traps = counted d;
      sites = counted e;
    })
    ≡ record {
      size = counted (1 + v + a);
      copied = counted (1 + v + b);
      height = counted (1 + c);
      traps =
          counted d;
      sites = counted e;
    }
unfolding around
around_weighs w v a b c d e same = same_sizes (omega arith) (omega arith) (omega arith) refl refl

pub both_weighs : (w v a b c d e a' b' c' d' e' : ℕ) → counted w ≡ counted v
    → both w (record {
      size = counted a;
      copied = counted b;
      height = counted c;
      traps = counted d;
      sites =
          counted e;
    }) (record {
      size = counted a';
      copied = counted b';
      height = counted c';
      traps =
          counted d';
      sites = counted e';
    })
    ≡ record {
      size = counted (1 + v + a + a');
      copied = counted (1 + v + b + b');
      height =
          counted (1 + max c c');
      traps = counted (max d d');
      sites = counted (e + e');
    }
unfolding both
both_weighs w v a b c d e a' b' c' d' e' same = same_sizes (omega arith) (omega arith) (omega arith)
    (omega arith) (omega arith)

pub looped_weighs : (a b c d e : ℕ)
    → looped (record {
      size = counted a;
      copied = counted b;
      height = counted c;
      traps = counted d;
      sites =
          counted e;
    })
    ≡ record {
      size = counted (1 + a);
      copied = counted (2 + 2 * b);
      height = counted (2 + c);
      traps =
          counted d;
      sites = counted e;
    }
unfolding looped
looped_weighs a b c d e = same_sizes (omega arith) (omega arith) (omega arith) refl refl

pub trapped_weighs : (a b c d e : ℕ)
    → trapped (record {
      size = counted a;
      copied = counted b;
      height = counted c;
      traps = counted d;
      sites = counted e;
    })
    ≡ record {
      size = counted (1 + a);
      copied = counted (1 + b);
      height = counted (1 + c);
      traps =
          counted (1 + d);
      sites = counted e;
    }
unfolding trapped
trapped_weighs a b c d e = same_sizes (omega arith) (omega arith) (omega arith) (omega arith) refl

-- ---- what a program looks up

pub there : {A : Type 0} (xs : List A) (x : A) (ys : List A)
    → slice_get ((xs ++ x ∷ []) ++ ys) (length xs) ≡ Some x
there [] x ys = refl
there (z ∷ xs) x ys = there xs x ys

pub blocks_same : (k : Kind) (first : Option Value)
    → blocks_of_first first ≡ value_blocks (first_or_default k first)
blocks_same k (Some v) = refl
blocks_same kind.Pure None = refl
blocks_same kind.Int None = refl
blocks_same kind.Bool None = refl
blocks_same kind.Text None = refl

pub value_same : (n : Numbered) (e : Option (Expr ℕ))
    → size_of_optional (optional_expression (value_in_numbers n e)) ≡ size_of_optional (optional_expression e)
value_same n None = refl
value_same n (Some e) = same_size (number_of n) e

pub site_same : (n : Numbered) (a : AsyncNode ℕ) → size_of_site
    (Some (site_in_numbers n a)) ≡ weight_of_async a
site_same n a = λ i. same_arguments (number_of n) a.args i + handler_blocks a.kill + handler_blocks
    a.suspend + handler_blocks a.resume

-- ---- statements without parts, round one part, and of two parts

pub same_signals : (n : Numbered) → n.signals ≡ n.signals ++ []
same_signals n = sym (append-nil n.signals)

same_sites : (n : Numbered) → n.sites ≡ n.sites ++ []
same_sites n = sym (append-nil n.sites)

begins_earlier : (signals : List SignalDecl) (sites : List AsyncSite) (ds : List SignalDecl)
    (xs : List AsyncSite) (signals' : List SignalDecl) (sites' : List AsyncSite) (K : Kernel)
    → signals' ≡ signals ++ ds → sites' ≡ sites ++ xs → Begins signals' sites' K → Begins signals sites K
begins_earlier signals sites ds xs signals' sites' K e f b =
    record {
      more_signals = ds ++ b.more_signals;
      signals_are = b.signals_are ∙ ap (λ z. z ++ b.more_signals) e ∙ append_assoc signals ds b.more_signals;
      more_sites = xs ++ b.more_sites;
      sites_are = b.sites_are ∙ ap (λ z. z ++ b.more_sites) f ∙ append_assoc sites xs b.more_sites;
    }

pub none_inside : (t : Placed) (n : Numbered) (s : Sizes) → ((K : Kernel) → s ≡ weighed K t 0)
    → WeighsIn (t, n) n s
none_inside t n s h = record {
  new_signals = [];
  signals_are = same_signals n;
  new_sites = [];
  sites_are =
      same_sites n;
  sizes = λ K b. h K;
}

pub one_inside : (t : Placed) (x : Placed × Numbered) (n : Numbered) (s s' : Sizes)
    → ((K : Kernel) (k : ℕ) → s ≡ weighed K x.0 k → s' ≡ weighed K t k) → WeighsIn x n s
    → WeighsIn (t, x.1) n s'
one_inside t x n s s' h w =
    record {
      new_signals = w.new_signals;
      signals_are = w.signals_are;
      new_sites = w.new_sites;
      sites_are =
          w.sites_are;
      sizes = λ K b. h K (length w.new_sites) (w.sizes K b);
    }

pub two_inside : (t : Placed) (x : Placed × Numbered) (y : Placed × Numbered) (n : Numbered)
    (s s' s'' : Sizes) → ((K : Kernel) (j k : ℕ) → s ≡ weighed K x.0 j → s' ≡ weighed K y.0 k
    → s'' ≡ weighed K t (j + k))
    → WeighsIn x n s → WeighsIn y x.1 s' → WeighsIn (t, y.1) n s''
two_inside t x y n s s' s'' h w v =
    record {
      new_signals = w.new_signals ++ v.new_signals;
      signals_are = v.signals_are ∙ ap (λ z. z ++ v.new_signals) w.signals_are
          ∙ append_assoc n.signals w.new_signals v.new_signals;
      new_sites = w.new_sites ++ v.new_sites;
      sites_are = v.sites_are ∙ ap (λ z. z ++ v.new_sites) w.sites_are
          ∙ append_assoc n.sites w.new_sites v.new_sites;
      sizes = λ K b.
          h K (length w.new_sites) (length v.new_sites)
          (w.sizes K (begins_earlier x.1.signals x.1.sites v.new_signals v.new_sites y.1.signals
          y.1.sites K v.signals_are v.sites_are b)) (v.sizes K b)
          ∙ ap (λ (k : ℕ). weighed K t k) (sym (length-append w.new_sites v.new_sites));
    }

-- a statement inside a new signal
pub local_inside : (t : Placed) (d : SignalDecl) (x : Placed × Numbered) (n : Numbered) (m : Numbered)
    (s s' : Sizes) → m.signals ≡ n.signals ++ d ∷ [] → m.sites ≡ n.sites
    → ((K : Kernel) (k : ℕ) → first_at K (length n.signals) ≡ d.first → s ≡ weighed K x.0 k
    → s' ≡ weighed K t k) → WeighsIn x m s → WeighsIn (t, x.1) n s'
local_inside t d x n m s s' e f h w =
    let signals : x.1.signals ≡ (n.signals ++ d ∷ []) ++ w.new_signals = w.signals_are
    ∙ ap (λ z. z ++ w.new_signals) e in
    record {
      new_signals = d ∷ w.new_signals;
      signals_are = signals ∙ append_assoc n.signals (d ∷ []) w.new_signals;
      new_sites = w.new_sites;
      sites_are = w.sites_are ∙ ap (λ z. z ++ w.new_sites) f;
      sizes = λ K b.
          let rest = begins_earlier (n.signals ++ d ∷ []) n.sites w.new_signals w.new_sites x.1.signals
          x.1.sites K signals (w.sites_are ∙ ap (λ z. z ++ w.new_sites) f) b in
          h K (length w.new_sites) (looked_up K (ap (λ z. slice_get z (length n.signals)) rest.signals_are
          ∙ there n.signals d rest.more_signals)) (w.sizes K b);
    }
  where
    looked_up : (K : Kernel) → slice_get K.signals (length n.signals) ≡ Some d
        → first_at K (length n.signals) ≡ d.first
    looked_up K same = ap (λ o. elim o as (λ x. Value) [ Some e ↦ e.first | None ↦ value.Unit ]) same
