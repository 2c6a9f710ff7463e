-- Modules written out, and how their values are numbered and named.
use Rattle.std.specs.Prelude.{◌≡◌, ◌+◌, ℕ, List, [], ◌∷◌, ◌++◌, codes, map}
use Rattle.ir_core.specs.declared.functions.Block.{Block}
use Rattle.ir_core.specs.declared.functions.Function.{Function}
use Rattle.ir_core.specs.declared.modules.Module.{Module}
use Rattle.ir_core.specs.declared.functions.Param.{Param}
use Rattle.ir_core.specs.declared.functions.Term.TheVariants.{Br, CondBr}
use Rattle.ir_types.specs.declared.names.Name.{Name}
use Rattle.ir_types.specs.declared.names.Name.TheVariants.{Text, Number}
use Rattle.ir_core.specs.declared.operands.Atom.TheVariants.{Register}
use Rattle.ir_types.specs.declared.ty.Ty.{Int}
use Rattle.ir_core.specs.Examples.{add, block, f, number, x, y}
use Rattle.ir_rename.specs.Numbered.{numbered_in_order}
use Rattle.ir_rename.specs.Named.{fresh, named_all}
use Rattle.ir_core.specs.declared.modules.Linkage.TheVariants as linkage
use Rattle.ir_core.specs.Modules.{not_extended, plain_function, plain_module, plain_param}

-- a parameter of i32
abbrev pub i32 : Name → Param
i32 name = plain_param (Int 32) name

-- define i32 @name(params) { blocks }
abbrev pub taking : Name → List Name → List Block → Function
taking name params blocks = plain_function (Int 32) name (map i32 params) blocks

abbrev pub of : List Function → Module
of functions = plain_module [] functions

-- ---- numbers

-- define i32 @f(i32) { %2 = add i32 %0, 1  ret i32 %2 }, with these names for 0, 1 and 2
abbrev pub adding_to : Name → Name → Name → Function
adding_to param entry sum =
    taking f (param ∷ []) (block entry (add sum (Register param) (number 1) ∷ []) (Int 32) (Register sum) ∷ [])

-- define i32 @f(i32 %0, i1 %1) with a loop: the entry jumps to a block that counts on in a phi, leads back to itself or to the end
abbrev pub counting : Name → Name → Name → Name → Name → Name → Name → Function
counting from again entry loop now next end =
    record {
      linkage = linkage.External;
      result_extensions = not_extended;
      result = Int 32;
      name = f;
      params = i32 from ∷ plain_param (Int 1) again ∷ [];
      blocks =
          record { name = entry; phis = []; body = []; term = Br loop }
          ∷ record {
            name = loop;
            phis = record {
              name = now;
              ty = Int 32;
              entries = record { value = Register from; from = entry } ∷ record { value = Register next; from = loop } ∷ [];
            } ∷ [];
            body = add next (Register now) (number 1) ∷ [];
            term = CondBr (record { condition = record { ty = Int 1; atom = Register again }; on_true = loop; on_false = end });
          }
          ∷ block end [] (Int 32) (Register next)
          ∷ [];
    }

pub record NumbersOfExamples : Type 0 where
  -- %7, %3 and %5 are 0, 1 and 2
  pub counted :
      numbered_in_order (of (adding_to (Number 7) (Number 3) (Number 5) ∷ [])) ≡ of (adding_to (Number 0) (Number 1) (Number 2) ∷ [])
  -- what is in order stays
  pub kept :
      numbered_in_order (of (adding_to (Number 0) (Number 1) (Number 2) ∷ [])) ≡ of (adding_to (Number 0) (Number 1) (Number 2) ∷ [])
  -- a text takes no number, though it be one's digits
  pub beside_texts :
      numbered_in_order (of (adding_to (Number 1) (Text (codes "0")) (Number 0) ∷ []))
      ≡ of (adding_to (Number 0) (Text (codes "0")) (Number 1) ∷ [])
  -- labels, phis and what they name are counted with the others, and each is used by its new name
  pub in_a_loop :
      numbered_in_order (of (counting (Number 9) (Number 0) (Number 8) x (Number 7) (Number 1) (Number 2) ∷ []))
      ≡ of (counting (Number 0) (Number 1) (Number 2) x (Number 3) (Number 4) (Number 5) ∷ [])
  -- each function has a count of its own, and its own name stays
  pub each :
      numbered_in_order (of (taking (Number 4) (Number 2 ∷ []) [] ∷ taking (Number 5) (Number 2 ∷ Number 1 ∷ []) [] ∷ []))
      ≡ of (taking (Number 4) (Number 0 ∷ []) [] ∷ taking (Number 5) (Number 0 ∷ Number 1 ∷ []) [] ∷ [])

-- ---- texts

abbrev pub v : ℕ → Name
v n = Text (codes "v." ++ (48 + n) ∷ [])

pub record NamesOfExamples : Type 0 where
  -- `v.3` is none of the names; or it is one, or with one dot and with two behind it too
  pub none_taken : fresh (x ∷ y ∷ []) (codes "v.3") ≡ codes "v.3"
  pub one_taken : fresh (x ∷ v 3 ∷ []) (codes "v.3") ≡ codes "v.3."
  pub three_taken :
      fresh (Text (codes "v.3..") ∷ Text (codes "v.3") ∷ Text (codes "v.3.") ∷ []) (codes "v.3") ≡ codes "v.3..."
  -- with one dot alone it isn't taken itself
  pub dotted_taken : fresh (Text (codes "v.3.") ∷ []) (codes "v.3") ≡ codes "v.3"
  -- parameter, block and register
  pub all_unnamed :
      named_all (of (adding_to (Number 0) (Number 1) (Number 2) ∷ [])) ≡ of (adding_to (v 0) (v 1) (v 2) ∷ [])
  -- each gets the number that it has, and not the one that is due
  pub out_of_order :
      named_all (of (adding_to (Number 7) x (Number 5) ∷ [])) ≡ of (adding_to (v 7) x (v 5) ∷ [])
  -- a block of the function is named `v.0`
  pub taken :
      named_all (of (adding_to (Number 0) (v 0) (Number 2) ∷ [])) ≡ of (adding_to (Text (codes "v.0.")) (v 0) (v 2) ∷ [])
  -- names of other functions aren't taken, nor the names of functions, which stay
  pub elsewhere :
      named_all (of (taking (v 0) (Number 0 ∷ []) [] ∷ taking (Number 0) (v 0 ∷ Number 1 ∷ []) [] ∷ []))
      ≡ of (taking (v 0) (v 0 ∷ []) [] ∷ taking (Number 0) (v 0 ∷ v 1 ∷ []) [] ∷ [])
