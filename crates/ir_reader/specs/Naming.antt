-- What a tree names, or what is first at fault in it: of its names and types the first by place and reason, unless a block is too large before that.
use Rattle.std.specs.Prelude.{◌≡◌, ◌≤◌, ◌<◌, ℕ, cond, nat_lt, List, [], Option, None, Some, Result, Ok, Err}
use Rattle.std.specs.List.{Contains}
use Rattle.ir_core.specs.declared.modules.Module.{Module}
use Rattle.ir_types.specs.declared.names.Name.{Name}
use Rattle.module_grammar.specs.declared.functions.DeclaredText.{DeclaredText}
use Rattle.module_grammar.specs.declared.items.ModuleText.{ModuleText}
use Rattle.module_grammar.specs.declared.places.Placed.{Placed}
use Rattle.module_grammar.specs.declared.types.CalledText.{CalledText}
use Rattle.module_spelling.specs.Blocks.{large_places}
use Rattle.module_spelling.specs.Faults.{IsFirstOf}
use Rattle.name_claims.specs.declared.claims.Fault.{Fault}
use Rattle.named_modules.specs.Built.{module_of}
use Rattle.named_modules.specs.Faults.{faults_of, heads_of}
use Rattle.ir_reader.specs.declared.misnamed.Misnamed.{Misnamed}
use Rattle.ir_reader.specs.declared.misnamed.Misnamed.TheVariants as misnamed

-- where the limit on blocks is passed
abbrev pub large_in : (Placed Name → DeclaredText) → ModuleText → List ℕ
large_in params w = large_places (heads_of (module_of params w)) w

module _ (stated : Placed Name → CalledText) (params : Placed Name → DeclaredText) (w : ModuleText) where
  -- nothing is at fault, and no block is too large
  abbrev pub IsFaultless : Type 0
  IsFaultless = (faults_of stated params w ≡ []) × (large_in params w ≡ [])

  -- a fault, before which no block is too large; or a block that is too large, before which nothing is at fault
  abbrev pub IsMisnamed : Misnamed → Type 0
  IsMisnamed (misnamed.Fault f) = IsFirstOf (faults_of stated params w) f × ((place : ℕ) → Contains (large_in params w) place → f.start ≤ place)
  IsMisnamed misnamed.Block = (place : ℕ) × Contains (large_in params w) place × ((f : Fault) → Contains (faults_of stated params w) f → place < f.start)

  abbrev pub IsJudged : Option Misnamed → Type 0
  IsJudged None = IsFaultless
  IsJudged (Some e) = IsMisnamed e

  abbrev pub IsNaming : Result Module Misnamed → Type 0
  IsNaming (Ok m) = (m ≡ module_of params w) × IsFaultless
  IsNaming (Err e) = IsMisnamed e

-- ---- words of private functions

abbrev pub block_or_fault : Fault → ℕ → Misnamed
block_or_fault f place = cond (nat_lt place f.start) misnamed.Block (misnamed.Fault f)

abbrev pub first_of : Option Fault → Option ℕ → Option Misnamed
first_of None None = None
first_of None (Some place) = Some misnamed.Block
first_of (Some f) None = Some (misnamed.Fault f)
first_of (Some f) (Some place) = Some (block_or_fault f place)
