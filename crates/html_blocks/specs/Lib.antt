pub mod ContainersView
