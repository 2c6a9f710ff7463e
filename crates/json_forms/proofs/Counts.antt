use Rattle.std.proofs.Common.{◌≡◌, suc, refl, ap, List, [], ◌∷◌, length}
use Rattle.json_forms.specs.JsonValues.View.{items_view}
use Rattle.json_forms.specs.declared.json_values.value.Value.{Value}
use Rattle.json_forms.specs.Forms.{items_list}

pub item_count : (vs : List Value) → length (items_list (items_view vs)) ≡ length vs
item_count [] = refl
item_count (v ∷ vs) = ap (λ n. suc n) (item_count vs)
