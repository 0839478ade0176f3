pub mod AskJoined
