-- Words of private functions. Things that are kept by their names.
use Rattle.std.specs.Prelude.{cond, List, [], ◌∷◌, map}
use Rattle.std.specs.Borrow.{Bor}
use Rattle.ir_types.specs.declared.names.Name.{Name}
use Rattle.ir_types.specs.Same.{same_name}

-- those that are kept for the name: the group at the name's first place
abbrev pub group_of : {T : Type 0} → Name → List Name → List (List (Bor T)) → List T
group_of x (n ∷ names) (g ∷ groups) = cond (same_name x n) (map (λ item. item.now) g) (group_of x names groups)
group_of x names [] = []
group_of x [] (g ∷ groups) = []
