-- In a roll that keeps every rule each page fits.
use Rattle.std.proofs.Common.{ℕ, ◌+◌, ◌<◌, ◌≤◌, List, length, arith}
use Rattle.roll.specs.Format.{page_count, offset, size}
use Rattle.roll.specs.Opened.{Accepted}
use Rattle.roll.proofs.Chain.{ends_inside}

pub page_inside : (b : List ℕ) (k : ℕ) → Accepted b → k < page_count b
    → offset b k + size b k ≤ length b
page_inside b k a l = omega (arith, ends_inside b k a.no_pages_no_bytes a.entries l, a.indexed.1)
