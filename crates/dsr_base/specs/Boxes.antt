-- A square of boxes: one from each place to each place, each with at most one item (this project).
use Rattle.std.specs.Prelude.{◌≡◌, ℕ, suc, List, [], ◌<◌, None, Some, length, slice_index_or, slice_set}
use Rattle.dsr_base.specs.declared.boxes.MailBox.{MailBox}

-- a box into which nothing was ever put
abbrev pub empty_box : {T : Type 0} → MailBox T
empty_box = record { posts = 0; item = None }

-- the box to this place, in the row of one place
abbrev pub box_in : {T : Type 0} → List (MailBox T) → ℕ → MailBox T
box_in row to = slice_index_or row to empty_box

-- the boxes from one place
abbrev pub row_of : {T : Type 0} → List (List (MailBox T)) → ℕ → List (MailBox T)
row_of rows from = slice_index_or rows from []

-- the box from one place to another
abbrev pub box_at : {T : Type 0} → List (List (MailBox T)) → ℕ → ℕ → MailBox T
box_at rows from to = box_in (row_of rows from) to

-- there are `places` rows, and as many boxes in each
pub record AreSquare {T : Type 0} (places : ℕ) (rows : List (List (MailBox T))) : Type 0 where
  pub count : length rows ≡ places
  pub each : (from : ℕ) → from < places → length (row_of rows from) ≡ places

-- the rows with this box from one place to another
abbrev pub with_box : {T : Type 0} → List (List (MailBox T)) → ℕ → ℕ → MailBox T → List (List (MailBox T))
with_box rows from to box = slice_set rows from (slice_set (row_of rows from) to box)

-- the box after this item is put into it
abbrev pub with_item : {T : Type 0} → MailBox T → T → MailBox T
with_item box item = record { posts = suc box.posts; item = Some item }

-- the box after its item is taken
abbrev pub without_item : {T : Type 0} → MailBox T → MailBox T
without_item box = record { posts = box.posts; item = None }
