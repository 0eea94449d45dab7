-- What the three edits make of a row. Assumes nothing.
use Rattle.std.specs.Prelude.{ℕ, ◌+◌, ◌-◌, Bool, cond, ◌&&◌, List, map, length, ◌==◌, nat_le, nat_lt, slice_index_or, slice_set}
use Rattle.std.specs.List.{range_with_len, insert, remove}
use Rattle.shelves.specs.declared.edit.Edit.{Edit}
use Rattle.shelves.specs.declared.edit.Edit.TheVariants.{Put, Insert, Remove}
use Rattle.shelves.specs.declared.version.State.TheVariants.{Committed}
use Rattle.shelves.specs.declared.version.Version.{Version}
use Rattle.shelves.specs.Rows.{keeps_rule}

-- the place fits a row of n versions
abbrev pub fits : Edit → ℕ → Bool
fits (Put p v) n = nat_lt p n
fits (Insert p v) n = nat_le p n
fits (Remove p) n = nat_lt p n

-- how many versions there are afterwards
abbrev pub count_after : Edit → ℕ → ℕ
count_after (Put p v) n = n
count_after (Insert p v) n = n + 1
count_after (Remove p) n = n - 1

abbrev pub edited : Edit → List Version → List Version
edited (Put p v) vs = slice_set vs p v
edited (Insert p v) vs = insert vs p v
edited (Remove p) vs = remove vs p

-- an edit is accepted if its place fits and the row rule then holds
abbrev pub accepts : Edit → List Version → Bool
accepts e vs = fits e (length vs) && keeps_rule (edited e vs)

-- the row afterwards
abbrev pub row_after : Edit → List Version → List Version
row_after e vs = cond (accepts e vs) (edited e vs) vs

-- eight places, of which a row uses the first ones: an edit moves those behind its place, and what comes free is blank

-- a version of zeros
abbrev pub blank : Version
blank = record { number = 0; stamp = 0; mark = 0; state = Committed; value = 0 }

-- what stands at place j afterwards
abbrev pub place_after : Edit → List Version → ℕ → Version
place_after (Put p v) vs j = cond (j == p) v (slice_index_or vs j blank)
place_after (Insert p v) vs j = cond (nat_lt j p) (slice_index_or vs j blank) (cond (j == p) v (slice_index_or vs (j - 1) blank))
place_after (Remove p) vs j = cond (nat_lt j p) (slice_index_or vs j blank) (cond (nat_lt j 7) (slice_index_or vs (j + 1) blank) blank)

abbrev pub places_after : Edit → List Version → List Version
places_after e vs = map (place_after e vs) (range_with_len 0 8)
