-- A list of values has as many items as its view.
use Rattle.std.proofs.Common.{◌≡◌, ◌∙◌, suc, List, [], ◌∷◌, length, map, refl, ap}
use Rattle.std.proofs.lemmas.List.{length-map}
use Rattle.serde_json.specs.declared.value.Value.{Value}
use Rattle.serde_json.specs.Data.{Data}
use Rattle.serde_json.specs.View.{view, items_of, items_view}
use Rattle.test_support.specs.RowTable.Tables.{count_items}

counted : (ds : List Data) → count_items (items_of ds) ≡ length ds
counted [] = refl
counted (d ∷ ds) = ap suc (counted ds)

pub counted_values : (vs : List Value) → count_items (items_view vs) ≡ length vs
counted_values vs = counted (map view vs) ∙ length-map vs view
