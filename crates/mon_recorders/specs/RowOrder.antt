-- The order of rows is a total one.
use Rattle.std.specs.Cmp.{IsTotalOrder, IsEquivalence, then_total, on_total, nat_cmp_total, eq_by_cmp_equiv}
use Rattle.std.specs.Cmp.Lexicographic.{nat_list_cmp_total}
use Rattle.std.specs.Ordering.{eq_by_cmp}
use Rattle.mon_recorders.specs.declared.rows.Row.{Row}
use Rattle.mon_recorders.specs.Rows.{row_cmp}

pub row_total : IsTotalOrder row_cmp
row_total =
    then_total (on_total (λ (r : Row). r.code) nat_cmp_total) (then_total (on_total (λ (r : Row). r.name) nat_list_cmp_total) (on_total (λ (r : Row). r.numbers) nat_list_cmp_total))

pub row_equiv : IsEquivalence (eq_by_cmp row_cmp)
row_equiv = eq_by_cmp_equiv row_total
