-- What a rule has to do with depths and lines, by its number.
use Rattle.std.specs.Prelude.{ℕ, cond, nat_eq, List, [], ◌∷◌}
use Rattle.module_spelling.specs.Opened.{definition, is_among, lines_at, opens, pointers}
use Rattle.derivation_writer.specs.declared.token_limits.role.Role.{Role}
use Rattle.derivation_writer.specs.declared.token_limits.role.Role.TheVariants.{Base, Definition, Line, Part, Plain, Pointers}

-- what stands before a type's stars: `iN`, a named type, `[N x T]`, `{ types }`
abbrev pub base_rules : List ℕ
base_rules = 75 ∷ 76 ∷ 77 ∷ 78 ∷ []

unfoldable pub role_of : ℕ → Role
role_of p =
    cond (nat_eq p pointers) Pointers
    (cond (nat_eq p definition) Definition
    (cond (is_among p base_rules) Base (cond (nat_eq (opens p) 1) Part (cond (nat_eq (lines_at p) 1) Line Plain))))
