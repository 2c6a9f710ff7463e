-- What is found of a command: its name with what is given of it.
use Rattle.std.proofs.Common.{◌≡◌, None, Some, Option, option_map, refl}
use Rattle.std.specs.Prelude.{Bool, true, false, not, ◌&&◌}

pub both : {X B N R : Type 0} (x : Option X) (b : Option B) (name : X → N) (rows : X → R) (name_b : B → N) (rows_b : B → R)
    → option_map name x ≡ option_map name_b b → option_map rows x ≡ option_map (λ (p : N × R). p.1) (option_map {U = N × R} (λ it. (name_b it, rows_b it)) b)
    → option_map {U = N × R} (λ it. (name it, rows it)) x ≡ option_map {U = N × R} (λ it. (name_b it, rows_b it)) b
both None None name rows name_b rows_b e e' = refl
both None (Some b) name rows name_b rows_b e e' = absurd (cc)
both (Some x) None name rows name_b rows_b e e' = absurd (cc)
both (Some x) (Some b) name rows name_b rows_b e e' = cc

-- of a test of many parts, the third part
pub third : (a b h rest : Bool) → (a && (not b && (not h && rest))) ≡ true → h ≡ false
third false b h rest e = absurd (cc)
third true true h rest e = absurd (cc)
third true false true rest e = absurd (cc)
third true false false rest e = refl
