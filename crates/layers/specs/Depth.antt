-- Causes of a layer, its own and those from below.
use Rattle.std.specs.Prelude.{ℕ, ◌+◌, min, Ok, Err, Result}
use Rattle.charset.specs.declared.SetRefusal.{SetRefusal}

-- a cause of the layer's own has depth 0
abbrev pub own : ℕ → SetRefusal
own n = record { cause = n; depth = 0 }

-- a cause from below keeps its number, and its depth grows by one, but 255 stays 255
abbrev pub up : SetRefusal → SetRefusal
up q = record { cause = q.cause; depth = min 255 (q.depth + 1) }

-- the cause from below if reading or writing below refuses, else the layer's own
abbrev pub over : {X : Type 0} → Result X SetRefusal → SetRefusal → SetRefusal
over (Ok r) mine = mine
over (Err q) mine = up q
