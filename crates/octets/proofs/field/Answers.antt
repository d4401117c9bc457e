-- `octets::field` meets its promise.
-- Assumes nothing.
use Rattle.std.proofs.Common.{ℕ, ◌≡◌, min, length, drop}
use Rattle.std.proofs.lemmas.List.{take_min, drop_min, take_rest}
use Rattle.octets.specs.Octets.{field_of}
use Rattle.octets.specs.Laws.{taken, field-under}
use Rattle.octets.proofs.field.Goals as goal

pub returns : goal.returns
returns c =
    let a = c.args in
    let l = a.s.now in
    let is : c.number.result ≡ field_of l a.at (min a.n 8) =
    rw (c.min-2.ensures, c.min.ensures, take_rest l (min a.at (length l)), drop_min a.at l, take_min a.n (drop a.at l), taken 8 a.n (drop a.at l)) at c.number.ensures in
    record { value = is; upper_bound = rw is (field-under l (λ (k : ℕ). (c.type_inv.s k).fits) a.at (min a.n 8)) }
