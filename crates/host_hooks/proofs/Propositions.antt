-- That a value is allowed is a proposition.
use Rattle.std.proofs.Common.{◌≡◌, List}
use Rattle.std.proofs.Math.Bool.{Bool-set}
use Rattle.std.specs.Coded.{Coded-set, Unit-prop}
use Rattle.hh_base.specs.contracts.value.Value as value
use Rattle.hh_base.specs.contracts.value.Kind as kind
use Rattle.hh_base.specs.declared.value.Value.{Value}
use Rattle.hh_base.specs.declared.value.Kind.{Kind}
use Rattle.host_hooks.specs.declared.law.HookLaw.{HookLaw}
use Rattle.host_hooks.specs.declared.law.HookLaw.TheVariants.{AnyOfKind, Within, Equals}
use Rattle.host_hooks.specs.Law.{Allows, IsAllowedBy}

allows_prop : (law : HookLaw) (answer : Kind) (args : List Value) (v : Value)
    → IsProp (Allows law answer args v)
allows_prop AnyOfKind answer args v = Unit-prop
allows_prop (Within least most) answer args v = hlevel Bool-set
allows_prop (Equals e) answer args v = Coded-set value.the_row.coded _ _

kind_set : (k l : Kind) → IsProp (k ≡ l)
kind_set k l = Coded-set kind.the_row.coded k l

pub allowed_prop : (law : HookLaw) (answer : Kind) (args : List Value) (v : Value)
    → IsProp (IsAllowedBy law answer args v)
allowed_prop law answer args v = hlevel (kind_set, allows_prop)
