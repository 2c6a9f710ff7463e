-- The limits on what is read: each has a name and a number, which is itself allowed.
use Rattle.std.specs.Prelude.{ℕ, ◌^◌, List, codes}
use Rattle.ir_core.specs.declared.limits.Limit.{Limit}
use Rattle.ir_core.specs.declared.limits.Limit.TheVariants.{Text, Json, Depth, Lines, Block, Facts}

-- how a limit is called
abbrev pub limit_name : Limit → List ℕ
limit_name Text = codes "text"
limit_name Json = codes "json"
limit_name Depth = codes "depth"
limit_name Lines = codes "lines"
limit_name Block = codes "block"
limit_name Facts = codes "facts"

-- how many bytes of a module's text, bytes of a JSON file, types or constants one inside the other, lines of a function, bytes of what is
-- allocated at once, facts that are known at a place of both sides together
abbrev pub limit_number : Limit → ℕ
limit_number Text = 2 ^ 24
limit_number Json = 2 ^ 26
limit_number Depth = 64
limit_number Lines = 2 ^ 20
limit_number Block = 2 ^ 31
limit_number Facts = 2 ^ 16

abbrev pub text_limit : ℕ
text_limit = limit_number Text

abbrev pub json_limit : ℕ
json_limit = limit_number Json

abbrev pub depth_limit : ℕ
depth_limit = limit_number Depth

abbrev pub line_limit : ℕ
line_limit = limit_number Lines

abbrev pub block_limit : ℕ
block_limit = limit_number Block

abbrev pub fact_limit : ℕ
fact_limit = limit_number Facts
