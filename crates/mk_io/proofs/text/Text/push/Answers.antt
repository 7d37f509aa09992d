use Rattle.mk_io.proofs.Front.{front_with_room, front_without_room}
use Rattle.mk_io.proofs.text.Text.push.Goals as goal

pub returns-then-self-lt-TEXT_BYTES : goal.returns-then-self-lt-TEXT_BYTES
returns-then-self-lt-TEXT_BYTES c =
    front_with_room 1025 _ _ _ _ c.self.told c.if-self-lt-TEXT_BYTES.true c.self.view_is

pub returns-else-self-lt-TEXT_BYTES : goal.returns-else-self-lt-TEXT_BYTES
returns-else-self-lt-TEXT_BYTES c =
    front_without_room 1025 _ _ _ _ c.self.told c.if-self-lt-TEXT_BYTES.false c.self.invariant c.self.view_is
