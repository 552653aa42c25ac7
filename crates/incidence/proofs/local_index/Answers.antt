-- `incidence::local_index` meets its contract. Assumes nothing.
use Rattle.std.proofs.Common.{◌≡◌, ◌≢◌, rules}
use Rattle.std.proofs.lemmas.Iterator.{IsFirst-from_position, YieldsList-from_slice}
use borrow.Author.Tests.{tests}
use Rattle.incidence.proofs.Incident.{sought-found}
use Rattle.incidence.proofs.local_index.Goals as goal

pub unwrap-requires : goal.unwrap-requires
unwrap-requires c =
    let a = c.args in
    sought-found a.n a.numbers.now c.position.result c.requires
    (IsFirst-from_position _ _ _ (λ v. v ≡ a.n) (λ v. v ≢ a.n) c.position.ensures.ran (YieldsList-from_slice a.numbers.now cc) (λ x q k. search (rules, tests)) (λ x q k. search (rules, tests)))
