pub mod SpaceOrTab
