use Rattle.std.proofs.Common.{◌∙◌, Option, sym, ap}
use Rattle.serde_json.specs.Data.{Items}
use Rattle.test_support.specs.RowTable.Tables.{count_in}
use Rattle.test_support.proofs.RowTable.Counting.{counted_values}
use Rattle.test_support.proofs.row_table.table.Table.len.Goals as goal

pub returns-in-Some : goal.returns-in-Some
returns-in-Some c =
    c.len.ensures ∙ c.in-Some.rows.now.ok.0
    ∙ sym (ap (λ (o : Option Items). count_in o) (sym c.in-Some.ensures) ∙ counted_values c.in-Some.rows.now.items)
