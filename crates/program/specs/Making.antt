-- The storage that a file names, on an area of zeros that is no longer than the storage uses.
use Rattle.std.specs.Prelude.{◌≡◌, ℕ, min, replicate, vec_items, Vec}
use Rattle.std.specs.declared.alloc.Global.{Global}
use Rattle.storage.specs.SlotMeaning.{NewSlots}
use Rattle.storage.specs.PageMeaning.{NewPages}
use Rattle.storage.specs.declared.slots.Slots.{Slots}
use Rattle.storage.specs.declared.pages.Pages.{Pages}

pub record MadeSlots (area wish : ℕ) (x : Slots) : Type 0 where
  pub zeros : Vec ℕ Global
  pub blank : vec_items zeros ≡ replicate (min area 4194304) 0
  pub new : NewSlots zeros wish x

pub record MadePages (area : ℕ) (x : Pages) : Type 0 where
  pub zeros : Vec ℕ Global
  pub blank : vec_items zeros ≡ replicate (min area 1048576) 0
  pub new : NewPages zeros x
