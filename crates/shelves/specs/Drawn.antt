-- A drawer's items before and after an edit. Assumes nothing.
use Rattle.std.specs.Prelude.{◌≡◌, ℕ, ◌<◌, ◌≤◌, true, false, List, [], ◌∷◌, map, length, get_or, take, set, Some, slice_index_or, slice_set}
use Rattle.std.proofs.Common.{sym, ap, ap₂, ◌∙◌, arith}
use Rattle.std.specs.List.{AllByRecursion, slice_get}
use Rattle.std.proofs.lemmas.Option.{get_or_from_slice_get}
use Rattle.std.proofs.ByRecursion.{All-map}
use Rattle.std.proofs.lemmas.Bool.{lt-ltb, le-ltb}
use Rattle.shelves.specs.declared.drawer.Drawer.{Drawer}
use Rattle.shelves.specs.declared.drawer.Entry.{Entry}
use Rattle.shelves.specs.declared.edit.Edit.{Edit}
use Rattle.shelves.specs.Drawers.{entry_item, drawer_items, EntryEdited, DrawerEdited}
use Rattle.shelves.specs.Edits.{accepts}
use Rattle.shelves.specs.Items.{ShelfLaws, has_room, accepts_in, accepts_at, item_after, items_with, items_after}
use Rattle.shelves.specs.Rows.{keeps_rule}
use Rattle.shelves.specs.Fronts.{length_front, map_at, map_past, map_front_set}
use Rattle.shelves.specs.RowsAfter.{versions_after}

every_ruled : (rs : List Entry) → AllByRecursion (λ r. keeps_rule (entry_item r).row ≡ true) rs
every_ruled [] = tt
every_ruled (r ∷ rs) = (r.row.ruled, every_ruled rs)

pub drawer_lawful : (d : Drawer) → ShelfLaws (drawer_items d)
drawer_lawful d =
    let len : length (drawer_items d) ≡ d.count = length_front d.count d.entries (omega arith) entry_item in
    record {
      few = omega arith;
      ruled = All-map (λ it. keeps_rule it.row ≡ true) entry_item (take d.count d.entries) (every_ruled (take d.count d.entries));
    }

pub entry_edited : (e : Edit) (x y : Entry) → EntryEdited e x y → entry_item y ≡ item_after e (entry_item x)
entry_edited e x y h = ap₂ (λ l v. record { level = l; row = v }) h.level (versions_after e x.row y.row h.row)

-- edits that are not accepted
pub unknown_item : (d : Drawer) (i : ℕ) (e : Edit) → d.count ≤ i → accepts_at (drawer_items d) i e ≡ false
unknown_item d i e h = ap (accepts_in e) (map_past d.count d.entries (omega arith) entry_item i h)

pub refused_edit : (d : Drawer) (i : ℕ) (e : Edit) (r : Entry) → i < d.count
    → accepts e (entry_item (slice_index_or d.entries i r)).row ≡ false → accepts_at (drawer_items d) i e ≡ false
refused_edit d i e r h not = ap (accepts_in e) (map_at d.count d.entries (omega arith) entry_item i r h) ∙ not

-- what is known of one that is accepted, which leaves entry s
pub record Changed (d : Drawer) (i : ℕ) (e : Edit) (s : Entry) : Type 0 where
  pub answer : accepts_at (drawer_items d) i e ≡ true
  pub after : map entry_item (take d.count (slice_set d.entries i s)) ≡ items_after (drawer_items d) i e

pub accepted_edit : (d : Drawer) (i : ℕ) (e : Edit) (r s : Entry) → i < d.count → slice_get d.entries i ≡ Some r → EntryEdited e r s → Changed d i e s
accepted_edit d i e r s known found x =
    let is : get_or d.entries i r ≡ r = get_or_from_slice_get d.entries i r r found in
    let some : slice_get (drawer_items d) i ≡ Some (entry_item r) =
    map_at d.count d.entries (omega arith) entry_item i r known ∙ ap (λ q. Some (entry_item q)) is in
    record {
      answer = ap (accepts_in e) some ∙ x.row.accepted;
      after =
          map_front_set d.count d.entries (omega arith) entry_item i s known
          ∙ ap (set (drawer_items d) i) (entry_edited e r s x)
          ∙ sym (ap (items_with (drawer_items d) i e) some);
    }

pub drawer_traced : (d t : Drawer) (i : ℕ) (e : Edit) → DrawerEdited d i e t → drawer_items t ≡ items_after (drawer_items d) i e
drawer_traced d t i e x =
    ap₂ (λ n rs. map entry_item (take n rs)) x.count x.entries
    ∙ (accepted_edit d i e x.before x.after x.known x.found x.edited).after

-- one item more
pub no_room : (d : Drawer) → 64 ≤ d.count → has_room (drawer_items d) ≡ false
no_room d h = le-ltb (length (drawer_items d)) 64 (omega (arith, length_front d.count d.entries (omega arith) entry_item))

pub room_left : (d : Drawer) → d.count < 64 → has_room (drawer_items d) ≡ true
room_left d h = lt-ltb (length (drawer_items d)) 64 (omega (arith, length_front d.count d.entries (omega arith) entry_item))
